pub mod Rate
pub mod Period
pub mod Kept
pub mod Pacing
pub mod Examples
