use Rattle.std.proofs.Common.{None, sym, ap, ◌∙◌}
use Rattle.sig_marks.specs.Sets.{depends_in, stands_of}
use Rattle.sig_marks.proofs.LinkedSets.{forgotten, forgotten_gap, stands_gap, stands_set}
use Rattle.sig_marks.proofs.links.forget_at.Goals as goal

pub returns-then-not-stands_in-clause-off : goal.returns-then-not-stands_in-clause-off
returns-then-not-stands_in-clause-off c = λ m d. forgotten_gap c.args.sets.now.entries c.args.id m d (sym c.stands_in.ensures ∙ c.if-not-stands_in.true)

pub returns-then-not-stands_in-clause-stands : goal.returns-then-not-stands_in-clause-stands
returns-then-not-stands_in-clause-stands c = stands_gap c.args.sets.now.entries c.args.id (sym c.stands_in.ensures ∙ c.if-not-stands_in.true)

pub returns-clause-off : goal.returns-clause-off
returns-clause-off c = λ m d. ap (λ ss. depends_in ss m d) c.remove-set.ensures.entries ∙ forgotten c.args.sets.now.entries c.args.id c.remove-set.result c.remove-set.ensures.value m d

pub returns-clause-stands : goal.returns-clause-stands
returns-clause-stands c = ap (λ ss. stands_of ss) c.remove-set.ensures.entries ∙ stands_set c.args.sets.now.entries c.args.id None
