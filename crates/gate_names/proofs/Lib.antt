pub mod Places
pub mod Lookups
pub mod Each
pub mod Refusals
pub mod Formals
pub mod LibraryTables
pub mod Tables
