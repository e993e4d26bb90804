mod Gone
pub mod Filled
