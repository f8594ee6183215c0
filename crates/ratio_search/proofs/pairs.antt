-- Laws of how the functions of `pairs` go.
pub mod Blocks
