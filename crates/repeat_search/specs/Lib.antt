pub mod Keys
pub mod Hashes
pub mod Marks
pub mod Filters
pub mod Tables
