use Rattle.formula_text.proofs.Minimal.{minimal_spells, minimal_longest}
use Rattle.formula_text.proofs.theorems.fewest_parentheses.Goals as goal

pub returns-clause-spells : goal.returns-clause-spells
returns-clause-spells c = minimal_spells

pub returns-clause-reads : goal.returns-clause-reads
returns-clause-reads c = minimal_longest
