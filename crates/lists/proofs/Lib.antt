pub mod Copying
pub mod Lows
pub mod Listed
pub mod Items
