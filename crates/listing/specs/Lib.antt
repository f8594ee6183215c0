pub mod Lines
pub mod Examples
pub mod Printed
pub mod Claims
