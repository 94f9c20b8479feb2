-- definitions
pub mod Refusals
pub mod Settings
pub mod Utf8
pub mod Leaves
pub mod Fields
pub mod Questions
pub mod Grammar
pub mod Cost
pub mod Calls
-- theorems, and what those of proofs/ speak of
pub mod SizeTable
pub mod Ranges
pub mod Rows
pub mod Packed
pub mod MarkedCases
pub mod Examples
pub mod Accessors
pub mod PackCost
pub mod CallTheorems
