pub mod Strokes
pub mod Histories
pub mod Drawings
