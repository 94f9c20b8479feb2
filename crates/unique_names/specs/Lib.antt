pub mod Asking
pub mod Contract
