pub mod Answering
pub mod KindWords
pub mod Writing
