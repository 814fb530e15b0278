pub mod Formats
pub mod Numbers
pub mod Parts
pub mod Putting
pub mod Readers
pub mod Repeats
