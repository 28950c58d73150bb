pub mod SplitFacts
pub mod NumberFacts
pub mod WordBytes
pub mod WordFacts
pub mod LineLaws
pub mod EventLaws
pub mod WishLaws
