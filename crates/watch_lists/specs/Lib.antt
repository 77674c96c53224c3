pub mod Watched
pub mod Chains
pub mod Links
pub mod Places
pub mod Block
