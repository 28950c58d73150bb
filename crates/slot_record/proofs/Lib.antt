mod SlotFacts
mod StepFacts
mod FindFacts
mod EntryFacts
mod PutFacts
mod FormatFacts
mod KeepFacts
mod RecordFacts
