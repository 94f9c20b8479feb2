pub mod Shapes
pub mod Tags
