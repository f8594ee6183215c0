-- Laws of how the functions of `adding` go.
pub mod Additions
