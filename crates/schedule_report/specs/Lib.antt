pub mod Counts
pub mod Report
pub mod Lines
-- ---- working notions of private functions
pub mod Tables
