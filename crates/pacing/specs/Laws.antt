-- What the layers above use of pacing: the period, what is kept, an input.
pub mod Period
pub mod Kept
pub mod Pacing
