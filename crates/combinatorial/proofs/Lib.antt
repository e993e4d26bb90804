mod Tests
mod Halves
mod Put
mod Written
pub mod Shapes
pub mod Bases
pub mod TakenBack
mod Patterns
