use Rattle.std.proofs.Common.{[], ◌∷◌, ap, ◌∙◌}
use Rattle.tpl_model.specs.KeptLines.Kept.{kept}
use Rattle.tpl_kept.specs.declared.renewing.parts.First.TheVariants as start
use Rattle.tpl_kept.proofs.renewing.parts.taken_up.Goals as goal

pub returns-clause-first : goal.returns-clause-first
returns-clause-first c = c.in_ok-first.ensures.ok ∙ ap start.Line c.into_inner-2.ensures

pub returns-clause-inside_was : goal.returns-clause-inside_was
returns-clause-inside_was c = rw c.deref.ensures at c.in_ok-inside.ensures.serve

pub returns-clause-later_was : goal.returns-clause-later_was
returns-clause-later_was c = c.in_ok-later.ensures.was ∙ ap (λ z. kept z ∷ []) c.into_inner.ensures

pub returns-clause-same : goal.returns-clause-same
returns-clause-same c = rw c.deref.ensures at c.in_ok-inside.ensures.same
