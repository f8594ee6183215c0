pub mod Fields
pub mod Leads
