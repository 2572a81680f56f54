use Rattle.std.proofs.Common.{◌<◌, length, slice_get, sym, ap, subst, ◌∙◌}
use Rattle.std.specs.Option.{option_copied}
use Rattle.tpl_hearing.specs.Heard.{Outcomes, heard_of}
use Rattle.tpl_hearing.proofs.Paired.{at_paired, has_name, has_outcome, heard_there}
use Rattle.tpl_hearing.proofs.outcomes.Outcomes.at.Goals as goal

pub unreachable-requires : goal.unreachable-requires
unreachable-requires c =
    has_name c.self.inside.names c.self.inside.outcomes.items c.args.place (subst (λ (h : Outcomes). c.args.place < length h) (sym c.self.view_is) c.requires)
    (sym c.at.ensures ∙ c.in_default.is)

pub unreachable-requires-in_default-outcome_at : goal.unreachable-requires-in_default-outcome_at
unreachable-requires-in_default-outcome_at c =
    has_outcome c.self.inside.names c.self.inside.outcomes.items c.args.place (subst (λ (h : Outcomes). c.args.place < length h) (sym c.self.view_is) c.requires)
    (ap (λ os. slice_get os c.args.place) (sym c.deref.ensures.value) ∙ sym c.outcome_at.ensures ∙ ap option_copied c.in_default-outcome_at.is)

pub returns-clause-at : goal.returns-clause-at
returns-clause-at c =
    ap (λ (h : Outcomes). slice_get h c.args.place) (sym c.self.view_is)
    ∙ at_paired c.self.inside.names c.self.inside.outcomes.items c.args.place c.in-Some.id c.in-Some-outcome_at.outcome.now (sym c.at.ensures ∙ c.in-Some.is)
    (ap (λ os. slice_get os c.args.place) (sym c.deref.ensures.value) ∙ sym c.outcome_at.ensures ∙ ap option_copied c.in-Some-outcome_at.is)

pub returns-clause-heard : goal.returns-clause-heard
returns-clause-heard c =
    ap (λ (h : Outcomes). heard_of h c.in-Some.id) (sym c.self.view_is)
    ∙ heard_there c.self.inside.names c.self.inside.outcomes.items c.in-Some.id c.args.place c.count-count.ensures.once (sym c.at.ensures ∙ c.in-Some.is)
    ∙ (ap (λ os. slice_get os c.args.place) (sym c.deref.ensures.value) ∙ sym c.outcome_at.ensures ∙ ap option_copied c.in-Some-outcome_at.is)
