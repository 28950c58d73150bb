pub mod WordFacts
pub mod RecordFacts
pub mod MergeFacts
