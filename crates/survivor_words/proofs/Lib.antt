mod Accepted
mod Lanes
mod Ones
pub mod Promises
mod Turned
