pub mod Names
pub mod Parts
pub mod Joins
pub mod Build
