pub mod Strung
pub mod Places
mod Tests
mod Runs
mod Clearing
mod Links
mod Relinks
mod Steps
pub mod Turns
