pub mod Claims
pub mod Spans
