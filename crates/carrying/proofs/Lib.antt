pub mod Local
pub mod Leading
pub mod Summing
