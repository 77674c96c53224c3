pub mod Lists
pub mod Passed
pub mod Rows
pub mod Transfers
