pub mod Image
pub mod Lifted
pub mod MemDisk
pub mod Positioned
pub mod Replay
pub mod View
