pub mod Counting
pub mod Asking
pub mod Paying
pub mod Orders
pub mod Lists
pub mod Methods
pub mod Accepting
