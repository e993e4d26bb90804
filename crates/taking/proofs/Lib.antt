mod Tags
pub mod Laid
pub mod Chunks
pub mod Reach
mod Whole
pub mod Fields
pub mod RoundTrip
pub mod Again
pub mod Joined
