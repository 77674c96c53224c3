pub mod Facts
pub mod Properties
pub mod Activities
pub mod Run
pub mod OfSchedule
pub mod ToSchedule
pub mod Agreement
pub mod Theorems
