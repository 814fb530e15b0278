pub mod Bytes
pub mod FieldLemmas
pub mod Numbers
pub mod RecordLemmas
