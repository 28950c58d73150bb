pub mod Lives
pub mod Serving
