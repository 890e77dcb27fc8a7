-- Theorems about the definitions of specs/Reading.antt.
pub mod Counting
pub mod Laws
