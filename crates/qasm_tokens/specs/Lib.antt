pub mod Pieces
pub mod Tokens
pub mod Scan
pub mod TokenForms
pub mod TokenReading
pub mod TokenKinds
