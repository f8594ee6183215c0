-- Laws of how the functions of `row` go.
pub mod Between
