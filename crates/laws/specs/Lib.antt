pub mod Ascending
pub mod Bools
pub mod Choice
pub mod Lists
