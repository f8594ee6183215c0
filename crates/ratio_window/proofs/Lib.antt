pub mod Passed
pub mod Searched
