pub mod HostAnswers
pub mod ReadBack
