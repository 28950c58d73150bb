pub mod Words
pub mod Drawing
