pub mod Answers
pub mod Reaching
