pub mod Walks
pub mod Distances
-- ---- working notions of private functions
pub mod Search
