pub mod Voters
pub mod Faults
pub mod Freed
pub mod Queues
