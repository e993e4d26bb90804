pub mod Counting
pub mod Verdicts
pub mod Tables
pub mod Sizes
pub mod Marks
pub mod MarkRows
pub mod Lent
