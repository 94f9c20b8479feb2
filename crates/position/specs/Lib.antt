pub mod Moving
pub mod Contract
