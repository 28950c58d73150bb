mod SlotFacts
mod StepFacts
mod KeepFacts
mod FindFacts
mod FormatFacts
mod RecordFacts
