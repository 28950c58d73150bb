pub mod PlainTexts
pub mod SoundTexts
