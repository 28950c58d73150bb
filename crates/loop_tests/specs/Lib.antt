pub mod Clients
pub mod Fresh
pub mod Odd
