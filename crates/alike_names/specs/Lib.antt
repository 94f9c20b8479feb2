pub mod Contract
pub mod Tables
pub mod Search
