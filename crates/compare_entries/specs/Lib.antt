pub mod TimerAnswers
pub mod PacingAnswers
pub mod MessageAnswers
pub mod Examples
