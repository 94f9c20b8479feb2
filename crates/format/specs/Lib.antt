-- definitions
pub mod Trace
pub mod Format
pub mod Reading
pub mod Record
pub mod Layout
-- theorems, and what those of proofs/ speak of
pub mod SettleTheorems
pub mod TraceTheorems
pub mod ChargeSums
pub mod LayoutTheorems
pub mod CountsCovered
pub mod ChargeBound
pub mod PlacesRise
