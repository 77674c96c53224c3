pub mod Stores
-- ---- working notions of private functions
pub mod Printable
pub mod PutBytes
