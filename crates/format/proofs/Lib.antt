pub mod TraceTheorems
pub mod ChargeSums
pub mod RecordTheorems
pub mod LayoutTheorems
pub mod CountsCovered
pub mod ChargeBound
pub mod PlacesRise
