pub mod Choices
pub mod Search
pub mod Orbits
pub mod Explicit
