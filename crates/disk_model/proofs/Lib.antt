pub mod Images
pub mod LiftedRuns
pub mod MemFields
pub mod MemRuns
pub mod Picked
pub mod Pieces
pub mod Runs
pub mod Splits
