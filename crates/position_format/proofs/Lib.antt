pub mod Rows
pub mod Steps
pub mod Positions
pub mod Points
pub mod Tables
