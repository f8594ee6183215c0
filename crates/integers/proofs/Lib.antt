pub mod Integers
pub mod Machine
pub mod Negation
