-- What the proofs use of the definitions of the crate rules.
--   Numbers     numbers on the wire and their distances
--   BookRules   the book rules as facts, and the tests that decide them
--   Run         one rule of a run
--   Calls       a list of calls
pub mod Numbers
pub mod BookRules
pub mod Run
pub mod Calls
