-- Laws of how the functions of `points` go.
pub mod ReadPoints
