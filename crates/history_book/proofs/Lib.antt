pub mod Histories
pub mod Refusals
pub mod Meetings
pub mod Stays
