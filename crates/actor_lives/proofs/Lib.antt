pub mod LifeFacts
pub mod ServingFacts
pub mod Steps
