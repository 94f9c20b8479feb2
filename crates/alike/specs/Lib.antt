-- definitions
pub mod Decompositions
pub mod Alike
pub mod Table
-- theorems
pub mod Examples
