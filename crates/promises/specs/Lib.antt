pub mod Common
pub mod Pack
pub mod Section
pub mod Lent
pub mod Lookup
pub mod Alike
