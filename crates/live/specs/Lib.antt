pub mod Readers
pub mod States
pub mod Claims
