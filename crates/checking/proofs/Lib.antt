mod Parts
pub mod PyramidCheck
mod AddKernels
mod AddCheck
