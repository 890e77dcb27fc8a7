pub mod Bytes
pub mod Modular
pub mod Limits
pub mod Rtt
