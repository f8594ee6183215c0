pub mod Rates
pub mod Points
pub mod Sides
