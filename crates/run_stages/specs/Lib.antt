pub mod Work
pub mod Exact
pub mod Found
pub mod Stages
pub mod Prepare
pub mod Kinds
pub mod Loading
pub mod Judging
-- ---- working notions of private functions
pub mod Putting
