pub mod Standing
pub mod Replies
pub mod Endings
pub mod Unsent
pub mod Turns
