pub mod TextFacts
pub mod OpeningFacts
pub mod ScriptFacts
pub mod ServeFacts
pub mod HearFacts
