pub mod Numbering
pub mod Packs
