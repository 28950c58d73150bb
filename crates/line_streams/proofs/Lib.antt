pub mod FeedFacts
pub mod StreamFacts
pub mod LineFacts
pub mod WriteFacts
