pub mod Ranges
pub mod Every
pub mod Numbered
pub mod Literals
pub mod NextBound
pub mod KeptLists
