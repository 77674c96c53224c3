pub mod Trails
pub mod Statuses
pub mod Heaps
