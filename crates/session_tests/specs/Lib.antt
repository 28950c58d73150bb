pub mod Fresh
pub mod Programs
