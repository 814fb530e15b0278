pub mod Format
pub mod Puts
pub mod Reading
