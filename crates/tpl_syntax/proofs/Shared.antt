-- What crates above may cite of these proofs. All else in this folder is this crate's own.

-- lines are exactly one template, or refused for exactly one cause
pub use Rattle.tpl_syntax.proofs.Uniqueness.{one_answer, some_answer}
-- what is written of a template is what its lines said, and is read back as it, line by line
pub use Rattle.tpl_syntax.proofs.Printer.{Written, written, read_anew, whole_lines}
-- lines in which nothing is wrong have no fault
pub use Rattle.tpl_syntax.proofs.Judgements.{no_why}
