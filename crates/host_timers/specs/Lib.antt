pub mod Examples
pub mod TimersAnswers
