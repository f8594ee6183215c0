pub mod Pieces
pub mod Lines
pub mod Printed
pub mod Claims
pub mod Examples
