pub mod Lists
pub mod Notices
pub mod Places
pub mod Closure
pub mod Shared
