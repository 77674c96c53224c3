pub mod Flags
pub mod Ascending
pub mod States
pub mod Visits
pub mod Order
pub mod Rows
pub mod Changed
pub mod Last
