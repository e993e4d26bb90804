pub mod Climbed
