pub mod Texts
pub mod Places
pub mod Walking
pub mod Keys
pub mod Asking
pub mod Lists
pub mod Following
