pub mod Ranges
pub mod Gates
pub mod Sound
