pub mod Text
pub mod Reading
-- ---- working notions of private functions
pub mod Progress
pub mod Words
pub mod ZoneLists
