pub mod Numbered
pub mod Records
