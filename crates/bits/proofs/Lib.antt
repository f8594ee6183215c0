pub mod Digits
pub mod Packing
pub mod Sinks
