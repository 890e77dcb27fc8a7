pub mod Table
pub mod Verdict
pub mod Order
pub mod Figures
