-- Laws of how the functions of `front` go.
pub mod ReadFront
