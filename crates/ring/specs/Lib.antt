pub mod Entry
pub mod Ring
