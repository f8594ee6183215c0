-- Laws of how the functions of `putting` go.
pub mod Writings
pub mod Recodings
