pub mod Dimacs
pub mod Lines
pub mod Right
pub mod Faults
pub mod Export
-- for private functions
pub mod Standing
pub mod Proof
