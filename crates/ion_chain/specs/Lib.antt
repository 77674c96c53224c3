pub mod ChainValue
pub mod Passing
pub mod Transfer
