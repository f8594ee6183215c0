pub mod BytePlanes
pub mod Apart
