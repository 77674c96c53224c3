pub mod Forms
pub mod Grammar
pub mod Reading
pub mod Trees
pub mod Frames
pub mod Starts
pub mod Expressions
pub mod Program
pub mod TokenFaults
pub mod Read
pub mod WellFormed
-- ---- working notions of private functions
pub mod Kinds
