pub mod Ready
pub mod Resumed
