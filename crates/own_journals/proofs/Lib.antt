pub mod OwnLineFacts
pub mod LifeFacts
