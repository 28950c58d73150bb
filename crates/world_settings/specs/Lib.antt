pub mod Faults
pub mod Settings
pub mod Openings
pub mod Heads
