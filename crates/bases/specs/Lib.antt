pub mod InTable
pub mod OfTable
pub mod Places
pub mod Valid
