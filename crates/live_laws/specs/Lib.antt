pub mod Events
pub mod Firing
pub mod Refusals
pub mod Batches
pub mod Rested
pub mod Cuts
pub mod CutExamples
