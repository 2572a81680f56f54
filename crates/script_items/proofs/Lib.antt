mod Ends
mod FirstWords
mod Lengths
mod Naturals
mod Numbers
mod Blocks
mod Totality
mod Held
mod Items
mod Heads
mod Commonest
mod Briefs
mod Plain
mod Operations
mod Chains
mod TemplateNumbers
pub mod Shared
