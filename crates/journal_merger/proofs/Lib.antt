pub mod PendingFacts
pub mod RoundFacts
pub mod StandFacts
pub mod OutFacts
pub mod JudgeFacts
