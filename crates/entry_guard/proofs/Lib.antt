pub mod DoorFacts
