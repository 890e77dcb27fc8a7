pub mod Naks
