pub mod Faults
pub mod HeadFaults
pub mod Progress
