pub mod Clauses
pub mod Solver
pub mod Linked
pub mod Watching
pub mod Learning
pub mod Searching
