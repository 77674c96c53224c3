pub mod Faults
-- ---- working notions of private functions
pub mod Judging
pub mod Progress
pub mod Ready
