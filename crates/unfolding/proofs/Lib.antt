mod Totals
mod Levelled
mod Tellings
pub mod Whole
