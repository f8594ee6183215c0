-- Laws of how the functions of `repeats` go.
pub mod Repeated
