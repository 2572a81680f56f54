use Rattle.formula_text.proofs.RoundTrips.{printable_tokens}
use Rattle.formula_text.proofs.Texts.{text_alone, text_in_line}
use Rattle.formula_text.proofs.theorems.canonical_text_reads.Goals as goal

pub returns-clause-alone : goal.returns-clause-alone
returns-clause-alone c = λ x ts good. text_alone x ts (printable_tokens x good)

pub returns-clause-in_line : goal.returns-clause-in_line
returns-clause-in_line c = λ x line from back good. text_in_line x line from back (printable_tokens x good)
