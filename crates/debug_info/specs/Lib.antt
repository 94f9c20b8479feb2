pub mod DebugInfo
pub mod Packs
