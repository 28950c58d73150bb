pub mod Views
pub mod Ties
pub mod Steps
