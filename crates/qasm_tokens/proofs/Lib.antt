pub mod Pieces
pub mod Steps
pub mod Reals
pub mod TokenForms
pub mod Longest
pub mod TokenReading
pub mod TokenKinds
