pub mod States
pub mod Claims
