pub mod SwitchFacts
