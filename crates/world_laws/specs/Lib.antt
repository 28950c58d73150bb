pub mod Reaching
pub mod Loads
pub mod MildWays
