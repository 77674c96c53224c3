pub mod Tallied
pub mod ZoneTables
pub mod Steps
pub mod Exact
pub mod ZoneLines
pub mod Counted
