pub mod Hmac
pub mod FrameLines
