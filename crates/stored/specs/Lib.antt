pub mod Examples
pub mod Stored
