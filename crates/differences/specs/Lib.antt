pub mod Differences
pub mod Overall
pub mod Comparisons
pub mod Claims
pub mod Examples
pub mod Numbers
pub mod NumberClaims
pub mod NumberExamples
