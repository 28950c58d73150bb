pub mod FoundFacts
pub mod ShapeFacts
