pub mod Run
pub mod Headline
pub mod RoundTrip
-- ---- working notions of private functions
pub mod Preparing
