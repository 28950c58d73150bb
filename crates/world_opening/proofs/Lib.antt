pub mod JudgingFacts
