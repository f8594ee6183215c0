pub mod Lists
pub mod Compare
pub mod Below
pub mod Among
pub mod Optional
