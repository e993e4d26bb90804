pub mod Bools
pub mod Refusals
pub mod Marked
pub mod Rows
pub mod Firsts
mod Counted
