pub mod Bound
pub mod Checks
pub mod Gathered
pub mod Names
pub mod View
