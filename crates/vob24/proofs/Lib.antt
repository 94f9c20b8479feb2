pub mod Rows
pub mod PackCost
pub mod CallTheorems
