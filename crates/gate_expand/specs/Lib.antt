pub mod Faults
pub mod Angles
pub mod Making
pub mod Expansion
pub mod Arguments
pub mod Operations
pub mod Registers
pub mod Program
pub mod Origins
-- ---- working notions of private functions
pub mod RegisterLimits
pub mod Nodes
pub mod WorkList
