pub mod Answers
pub mod Movable
pub mod Given
