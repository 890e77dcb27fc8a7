pub mod Timer
pub mod Periods
pub mod Timers
pub mod Checks
pub mod Wake
