pub mod EndFacts
pub mod InsideFacts
pub mod SoonFacts
pub mod Steps
