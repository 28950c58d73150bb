pub mod Empty
pub mod Ends
pub mod Outputs
pub mod Parts
