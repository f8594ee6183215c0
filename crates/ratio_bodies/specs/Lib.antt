pub mod Marks
pub mod Indexes
pub mod Taking
pub mod Sliding
