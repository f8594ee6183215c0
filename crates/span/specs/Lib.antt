pub mod Spans
pub mod Claims
pub mod Examples
