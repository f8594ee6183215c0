-- Laws of how the functions of `recode` go.
pub mod Copying
pub mod State
pub mod Passing
