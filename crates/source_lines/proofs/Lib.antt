pub mod Skips
pub mod Locations
