pub mod Pendings
pub mod Merges
pub mod Faults
pub mod Judging
