mod ListFacts
mod Membership
mod TextFacts
mod ShowingFacts
mod StateFacts
