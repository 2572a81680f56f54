use Rattle.mark_laws.proofs.AfterChange.{cell_marks_law, computed_marks_law, dispose_marks_law, rewire_marks_law, set_marks_law}
use Rattle.mark_laws.proofs.laws.change_marks_law.Goals as goal

pub returns-clause-cell : goal.returns-clause-cell
returns-clause-cell c = cell_marks_law

pub returns-clause-computed : goal.returns-clause-computed
returns-clause-computed c = computed_marks_law

pub returns-clause-set : goal.returns-clause-set
returns-clause-set c = set_marks_law

pub returns-clause-rewire : goal.returns-clause-rewire
returns-clause-rewire c = rewire_marks_law

pub returns-clause-dispose : goal.returns-clause-dispose
returns-clause-dispose c = dispose_marks_law
