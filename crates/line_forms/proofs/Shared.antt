-- What crates above may cite of these proofs: laws of forms and of grammars, never of a function. All else in this folder is this
-- crate's own.

-- a line says one thing, or nothing, and so do lines one after the other
pub use Rattle.line_forms.proofs.Blocks.{bad_writes_none, one_writing, line_or_none}
-- what is printed of a line writes it, and which bytes are a name
pub use Rattle.line_forms.proofs.Blocks.{text_writes}
pub use Rattle.line_forms.proofs.NameBytes.{name_is, name_word}
pub use Rattle.line_forms.proofs.Blocks.{lines_or_fault, one_saying, no_both, one_fault, prints_back}
-- lines that are printed of sayings say them again, whatever their numbers
pub use Rattle.line_forms.proofs.Blocks.{each_again, reached_again, renumbered, say_again}
-- what a reader finds in the tokens of a line is what its bytes write
pub use Rattle.line_forms.proofs.Findings.{said_word, from_tokens, held_from_tokens}
-- what is printed of a line is one line, which is read back as it and isn't passed over, and its text has such lines
pub use Rattle.line_forms.proofs.OneLine.{is_line}
pub use Rattle.line_forms.proofs.Lexer.{rewrites}
pub use Rattle.line_forms.proofs.Kept.{IsWhole, all_whole, kept_all, kept_said, said_whole}
-- names one after the other, and a formula over other names
pub use Rattle.line_forms.proofs.Slots.{among_is, each_names, few_each, there}
