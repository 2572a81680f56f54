use Rattle.std.proofs.Common.{sym, ap, ◌∙◌}
use Rattle.tpl_model.specs.KeptLines.Changes.{changed, is_stays}
use Rattle.tpl_model.proofs.ChangeEquations.{changed_first, changed_made, changed_over, changed_same, changed_stays}
use Rattle.tpl_drawn.proofs.comparing.comparer.is_stays.Goals as goal

pub returns-in-Stays : goal.returns-in-Stays
returns-in-Stays c = sym (ap is_stays (ap changed c.in-Stays.is ∙ changed_stays))

pub returns-in-Made : goal.returns-in-Made
returns-in-Made c = sym (ap is_stays (ap changed c.in-Made.is ∙ changed_made))

pub returns-in-Over : goal.returns-in-Over
returns-in-Over c = sym (ap is_stays (ap changed c.in-Over.is ∙ changed_over _ _ _))

pub returns-in-First : goal.returns-in-First
returns-in-First c = sym (ap is_stays (ap changed c.in-First.is ∙ changed_first _ _))

pub returns-in-Same : goal.returns-in-Same
returns-in-Same c = sym (ap is_stays (ap changed c.in-Same.is ∙ changed_same _ _))
