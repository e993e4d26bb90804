mod Whole
pub mod Exact
