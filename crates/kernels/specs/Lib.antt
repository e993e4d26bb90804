pub mod Strings
pub mod Ready
pub mod Walked
pub mod Relinked
