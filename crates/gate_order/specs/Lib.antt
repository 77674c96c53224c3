pub mod Ready
pub mod Keeping
-- ---- working notions of private functions
pub mod Changes
