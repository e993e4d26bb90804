pub mod Numbers
pub mod Marked
pub mod Lent
pub mod Rows
pub mod Pyramid
