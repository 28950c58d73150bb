pub mod Claims
pub mod Texts
pub mod Sights
pub mod Showing
