pub mod DrawFacts
pub mod TellFacts
