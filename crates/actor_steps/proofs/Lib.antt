pub mod ReopenFacts
pub mod StepFacts
pub mod EndFacts
pub mod FindingFacts
pub mod SendingFacts
pub mod ReadingFacts
