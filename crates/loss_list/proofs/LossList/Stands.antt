pub mod BookRules
