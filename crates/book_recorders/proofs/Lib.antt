pub mod Between
pub mod Logging
pub mod Sending
pub mod MeetingFacts
