pub mod Room
pub mod Serial
-- ---- working notions of private functions
pub mod Places
pub mod Routing
pub mod Traffic
