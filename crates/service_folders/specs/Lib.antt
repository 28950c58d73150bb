pub mod Cuts
pub mod Faults
pub mod Folders
pub mod Makings
pub mod Parts
