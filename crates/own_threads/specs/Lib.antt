pub mod Beginnings
pub mod Ends
pub mod Memories
pub mod Tasks
