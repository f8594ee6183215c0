pub mod Marks
pub mod Taking
pub mod Indexes
pub mod Sliding
pub mod PutRatios
