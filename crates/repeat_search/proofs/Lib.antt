pub mod Bits
pub mod Keys
pub mod Tables
pub mod Hashes
pub mod Marks
pub mod Tails
pub mod Filters
