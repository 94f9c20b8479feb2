pub mod Packed
pub mod Contract
