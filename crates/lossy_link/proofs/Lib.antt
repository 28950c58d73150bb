pub mod FateFacts
pub mod LinkFacts
pub mod GivenFacts
