pub mod Strings
pub mod Queues
pub mod Searches
pub mod Walks
pub mod ByLevels
