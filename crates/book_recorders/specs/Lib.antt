pub mod Sharing
pub mod Alone
pub mod Meeting
