pub mod Views
pub mod Slots
pub mod Texts
