-- What crates above may cite of these proofs. All else in this folder is this crate's own.

-- lines are exactly one body, or refused for exactly one cause
pub use Rattle.body_text.proofs.Uniqueness.{one_answer, some_answer}
-- what is printed of a body is read back as it, line by line
pub use Rattle.body_text.proofs.Printer.{read_anew, whole_lines}
-- bodies before others, and one more of them
pub use Rattle.body_text.proofs.Parts.{bodies_more}
