pub mod Apart
pub mod PutPlanes
