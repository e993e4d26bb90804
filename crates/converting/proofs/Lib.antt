pub mod Joined
pub mod Converted
