-- definitions
pub mod Source
-- examples, and what the theorems of proofs/ speak of
pub mod SourceTheorems
pub mod Examples
