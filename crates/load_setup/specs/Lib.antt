pub mod Words
pub mod Setup
