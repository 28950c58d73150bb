pub mod Doors
pub mod Guards
