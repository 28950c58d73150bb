pub mod KeepFacts
pub mod SentFacts
pub mod SwitchFacts
pub mod UnsentFacts
pub mod OpeningFacts
pub mod TurnFacts
