-- Laws of how the functions of `mover` go.
pub mod Movings
