pub mod Tightened
-- ---- working notions of private functions
pub mod Latest
pub mod Levels
pub mod Orders
pub mod Clock
