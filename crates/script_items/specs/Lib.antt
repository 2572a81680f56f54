pub mod Blocks
pub mod Items
pub mod Known
pub mod Views
pub mod Briefs
pub mod Operations
pub mod Chains
