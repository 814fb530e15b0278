pub mod Format
pub mod Head
pub mod Opening
pub mod PageOrder
pub mod Store
pub mod Twin
