pub mod Sessions
pub mod Guards
pub mod Outcomes
