mod Sequences
mod Uniqueness
mod Places
mod Grammars
mod Judgements
mod LineByLine
mod Semantics
mod Formulas
mod Indents
mod LogBodies
mod Parts
mod Printer
mod Slots
mod Soundness
mod Blocks
mod Texts
pub mod Shared
