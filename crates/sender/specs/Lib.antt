pub mod Acks
pub mod SenderAndAreas
pub mod Calls
