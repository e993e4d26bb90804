mod Put
pub mod Whole
pub mod TakenBack
