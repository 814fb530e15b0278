pub mod Fits
pub mod Laws
pub mod Meaning
pub mod Rows
pub mod Sides
