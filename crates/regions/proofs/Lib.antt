pub mod Regions
pub mod Facts
mod Choices
mod Naming
mod Whole
pub mod Promises
pub mod Small
