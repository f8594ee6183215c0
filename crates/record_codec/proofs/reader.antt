-- Laws of how the functions of `reader` go.
pub mod ReadRecord
