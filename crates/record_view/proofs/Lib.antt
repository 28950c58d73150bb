mod ViewFacts
mod SlotFacts
mod TextFacts
