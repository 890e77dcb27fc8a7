pub mod Figures
pub mod Orders
