pub mod SourceTheorems
