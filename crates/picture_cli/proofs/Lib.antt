pub mod WordFacts
pub mod DrawFacts
