pub mod BatchFacts
pub mod RunFacts
