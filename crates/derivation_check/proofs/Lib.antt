pub mod Refuting
pub mod Accepting
pub mod Taking
pub mod Feeding
pub mod Bounds
pub mod Accepted
pub mod OneAnswer
pub mod OneHead
