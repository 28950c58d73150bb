pub mod OwnTurns
pub mod OwnJournals
