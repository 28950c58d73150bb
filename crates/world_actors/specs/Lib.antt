pub mod Acting
pub mod Nodes
pub mod Clients
pub mod Asking
