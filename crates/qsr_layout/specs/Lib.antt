pub mod Fields
pub mod Page
pub mod SlotHead
pub mod StoreHead
