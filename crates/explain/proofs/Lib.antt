pub mod Indexes
pub mod Printed
pub mod Claims
pub mod Examples
