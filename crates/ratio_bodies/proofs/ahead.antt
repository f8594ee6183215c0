-- Laws of how the functions of `ahead` go.
pub mod FirstByte
