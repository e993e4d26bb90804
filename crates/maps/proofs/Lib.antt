pub mod Small
pub mod Jobs
pub mod Names
pub mod Relations
pub mod StarAgain
