pub mod Framed
pub mod Pages
