pub mod Rows
pub mod Ends
pub mod Expanding
pub mod Walking
pub mod Following
pub mod Back
