pub mod Log
pub mod Printing
pub mod Reading
pub mod Pieces
pub mod Place
pub mod DerivedLines
