-- Laws of how the functions of `writer` go.
pub mod CheckRun
