pub mod Causes
pub mod Columns
pub mod Encoding
pub mod Lending
pub mod Names
pub mod Number
pub mod Ordered
pub mod Values
