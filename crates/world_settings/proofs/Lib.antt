pub mod SettingsFacts
pub mod WishTexts
pub mod WishFacts
pub mod HeadFacts
pub mod StartFacts
