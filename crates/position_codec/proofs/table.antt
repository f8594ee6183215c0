-- Laws of how the functions of `table` go.
pub mod Residues
pub mod Numbers
