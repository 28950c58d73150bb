pub mod Media
pub mod FilePlates
pub mod FileFaults
