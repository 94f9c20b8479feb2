pub mod Packing
pub mod Marks
