pub mod Differences
pub mod Overall
pub mod Claims
pub mod Comparisons
pub mod NumberClaims
