pub mod EntryExamples
pub mod Examples
pub mod Printer
