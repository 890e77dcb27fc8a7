pub mod Split
pub mod Header
pub mod Figures
pub mod Examples
