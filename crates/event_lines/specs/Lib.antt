pub mod Faults
pub mod Commands
pub mod Lines
pub mod Reading
pub mod Events
pub mod Wishes
pub mod Laws
