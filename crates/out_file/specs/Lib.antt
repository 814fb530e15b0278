pub mod Output
pub mod Listing
pub mod Pushes
pub mod Reading
