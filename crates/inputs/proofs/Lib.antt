pub mod Inputs
pub mod Readings
