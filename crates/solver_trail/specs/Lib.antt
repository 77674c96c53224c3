pub mod Trail
pub mod Status
pub mod Storing
pub mod Queue
