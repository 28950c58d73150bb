pub mod ContentFacts
pub mod TellingFacts
pub mod MergingFacts
