pub mod OwnLogFacts
pub mod LengthFacts
pub mod LogFacts
