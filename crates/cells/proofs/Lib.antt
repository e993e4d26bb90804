pub mod Parts
mod Cells
mod Dividing
mod Sparing
mod Lent
pub mod Kernels
pub mod Pieces
pub mod Small
