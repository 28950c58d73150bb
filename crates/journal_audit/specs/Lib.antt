pub mod Faults
pub mod Verdicts
pub mod Audits
pub mod Leavings
pub mod Judging
pub mod Hearing
