pub mod Doubles
pub mod Known
pub mod Distinct
pub mod Passed
pub mod Joined
pub mod Sound
pub mod Accepted
