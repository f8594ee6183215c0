pub mod Causes
pub mod Tests
