pub mod Encoded
pub mod Tables
pub mod Clauses
pub mod Bounds
