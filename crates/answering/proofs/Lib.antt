pub mod Packed
pub mod Answers
pub mod Sending
