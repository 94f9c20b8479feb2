pub mod Characters
pub mod Folds
pub mod FoldedBytes
pub mod Collected
pub mod Order
pub mod Pairs
pub mod NewNames
pub mod Answers
