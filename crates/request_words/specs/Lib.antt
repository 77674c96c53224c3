pub mod Request
pub mod Seen
