-- working notions of private functions
pub mod Operations
pub mod Start
pub mod Emission
pub mod Loops
