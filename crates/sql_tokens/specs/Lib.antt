pub mod Text
pub mod Tokens
pub mod Words
