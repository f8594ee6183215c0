-- Laws of how the functions of `read` go.
pub mod NextPosition
pub mod State
pub mod Leading
