pub mod Records
pub mod Contract
