pub mod Causes
pub mod Terms
pub mod Gates
pub mod Entries
pub mod Library
pub mod Names
pub mod Declarations
pub mod GateOrder
-- ---- working notions of private functions
pub mod Noted
pub mod LibraryRows
