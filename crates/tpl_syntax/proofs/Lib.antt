mod Uniqueness
mod Ends
mod Places
mod Grammars
mod Judgements
mod LineByLine
mod Literals
mod Names
mod Printer
mod Soundness
pub mod Shared
