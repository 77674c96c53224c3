pub mod TooLarge
pub mod Found
-- for private functions
pub mod Searching
