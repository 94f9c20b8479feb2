pub mod Walk
pub mod Items
pub mod Tables
pub mod Contract
