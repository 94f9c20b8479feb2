pub mod Lists
pub mod Sizes
pub mod NewNames
pub mod Pairs
pub mod Skipping
pub mod Members
pub mod Packs
pub mod Searching
