pub mod Numbers
pub mod Misuses
pub mod Readings
pub mod Shapes
