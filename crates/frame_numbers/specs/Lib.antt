pub mod FrameNumbers
pub mod SaidFrames
