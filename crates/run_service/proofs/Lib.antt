pub mod ListFacts
pub mod ReadyFacts
pub mod HeadFacts
pub mod WriteFacts
pub mod RunFacts
