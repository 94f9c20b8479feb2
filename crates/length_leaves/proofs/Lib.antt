pub mod Texts
pub mod Limits
