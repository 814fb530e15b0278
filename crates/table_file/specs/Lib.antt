pub mod Appending
pub mod CatalogueBytes
pub mod Fields
pub mod FieldsLeft
pub mod Reading
pub mod Refusals
pub mod Tables
