pub mod Judging
pub mod Verifying
pub mod Faults
-- for private functions
pub mod Reading
