pub mod AtMost
pub mod Pairwise
pub mod Sequential
pub mod Totalizer
pub mod Conditions
