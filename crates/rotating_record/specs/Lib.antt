pub mod Slots
pub mod Records
pub mod Keeping
pub mod Finding
pub mod Formatting
