pub mod One
pub mod Answers
pub mod Cells
pub mod Partner
pub mod Regions
pub mod Jobs
pub mod Interface
