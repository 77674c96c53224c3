pub mod Filling
pub mod FirstUse
pub mod Faults
pub mod Named
pub mod Placing
-- ---- working notions of private functions
pub mod Orders
