pub mod Codes
pub mod Words
pub mod Grammar
pub mod Refusals
pub mod Views
