pub mod Codes
pub mod Grammar
pub mod Refusals
pub mod Lines
pub mod Places
pub mod Templates
pub mod Views
pub mod Printer
