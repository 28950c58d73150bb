pub mod Clients
pub mod Calls
pub mod Faults
