-- Laws of how the functions of `read` go.
pub mod References
pub mod First
