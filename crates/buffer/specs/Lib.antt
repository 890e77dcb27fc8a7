pub mod State
pub mod Removal
