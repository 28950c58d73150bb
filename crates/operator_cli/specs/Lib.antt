pub mod Faults
pub mod Lines
pub mod Openings
pub mod Texts
pub mod Outputs
pub mod PartOutputs
pub mod Hearing
