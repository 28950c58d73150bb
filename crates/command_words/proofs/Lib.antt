pub mod WordFacts
pub mod NameFacts
pub mod HelpFacts
