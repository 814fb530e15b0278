pub mod JobHead
pub mod Heads
