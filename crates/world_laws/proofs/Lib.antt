pub mod ReachFacts
pub mod ReplyCounts
pub mod WaitingFacts
pub mod LoadFacts
pub mod MildWays
