pub mod Reasons
pub mod Offers
pub mod Lives
pub mod Judging
