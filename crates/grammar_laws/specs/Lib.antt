pub mod Checks
pub mod Machine
pub mod Reading
