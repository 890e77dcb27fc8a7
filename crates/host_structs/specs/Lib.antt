pub mod Examples
pub mod Replies
pub mod Senders
