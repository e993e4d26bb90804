pub mod Orbits
pub mod Choices
pub mod Sets
mod Searches
pub mod Decided
pub mod Cells
pub mod Explicit
pub mod OrbitLaws
