pub mod Children
pub mod Lists
pub mod Addresses
pub mod Lines
pub mod Marks
