pub mod Strings
pub mod Stacks
pub mod Lengths
