-- Laws of how the functions of `search` go.
pub mod Searching
