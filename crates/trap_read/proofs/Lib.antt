pub mod Tables
pub mod Named
pub mod Place
pub mod Answered
pub mod Sound
