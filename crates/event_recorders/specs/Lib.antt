pub mod Faults
pub mod LogFaults
pub mod OwnLogs
pub mod Sharing
pub mod Laws
