pub mod Lines
pub mod Pieces
pub mod Printed
pub mod Claims
pub mod Examples
