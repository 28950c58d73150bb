pub mod NameFacts
pub mod FieldFacts
pub mod FrameFacts
