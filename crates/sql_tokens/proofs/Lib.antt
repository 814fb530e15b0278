pub mod Copies
pub mod Fronts
pub mod Lengths
pub mod Order
pub mod Passing
pub mod Standing
pub mod Steps
