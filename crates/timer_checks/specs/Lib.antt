pub mod Always
pub mod Lending
