pub mod Fields
pub mod Kept
