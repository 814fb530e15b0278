pub mod Framing
pub mod Fronts
