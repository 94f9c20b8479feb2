pub mod Numbers
pub mod Contract
pub mod Leaves
pub mod Recorded
pub mod Accepted
