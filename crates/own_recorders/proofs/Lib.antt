mod LineFacts
mod TurnFacts
mod KeepFacts
mod ToldFacts
