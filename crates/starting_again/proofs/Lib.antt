pub mod Renaming
pub mod Renumbering
pub mod FewerReads
pub mod StartingAgain
pub mod PackedAgain
pub mod StarStartedAgain
mod Tests
mod Reached
mod Whole
pub mod SinceAgain
pub mod Twice
