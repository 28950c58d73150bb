pub mod SetFacts
pub mod VoteFacts
pub mod ListFacts
