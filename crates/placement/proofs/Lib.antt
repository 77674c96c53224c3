pub mod Uses
pub mod Earlier
pub mod Ordered
pub mod Filled
pub mod Labels
pub mod Placed
