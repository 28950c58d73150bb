pub mod ChannelLinks
pub mod Faults
pub mod Laws
pub mod Links
pub mod Passages
pub mod Weathers
