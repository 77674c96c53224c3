pub mod Answers
pub mod Keys
pub mod Rows
pub mod Labels
pub mod TrapFile
