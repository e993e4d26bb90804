pub mod Answers
pub mod Put
