pub mod Reasons
pub mod Numbers
pub mod Claims
pub mod NumberExamples
