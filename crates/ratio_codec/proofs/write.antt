-- Laws of how the functions of `write` go.
pub mod Chosen
