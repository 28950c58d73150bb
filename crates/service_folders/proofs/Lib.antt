pub mod SplitFacts
pub mod PartFacts
pub mod SettingsFacts
