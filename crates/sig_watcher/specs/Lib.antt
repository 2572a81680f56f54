pub mod Numbers
pub mod Reach
pub mod Tables
pub mod Notices
