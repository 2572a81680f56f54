pub mod Characters
pub mod Placed
pub mod Printer
pub mod Scalars
pub mod Tables
pub mod Values
pub mod Words
