pub mod Wordings
pub mod Endings
