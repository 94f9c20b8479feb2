pub mod Bytes
pub mod FoldLaws
pub mod Letters
pub mod Injective
pub mod Contract
