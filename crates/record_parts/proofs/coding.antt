-- Laws of how the functions of `coding` go.
pub mod Codings
