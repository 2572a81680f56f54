use Rattle.std.proofs.Common.{slice_get, sym, ap, ◌∙◌}
use Rattle.std.specs.Option.{option_copied}
use Rattle.tpl_hearing.specs.Heard.{Outcomes, heard_of}
use Rattle.tpl_hearing.proofs.Paired.{heard_there, unheard}
use Rattle.tpl_hearing.proofs.outcomes.Outcomes.find_listed.Goals as goal

pub returns-in_default-clause-none : goal.returns-in_default-clause-none
returns-in_default-clause-none c =
    ap (λ (h : Outcomes). heard_of h c.args.id) (sym c.self.view_is)
    ∙ unheard c.self.inside.names c.self.inside.outcomes.items c.args.id c.in_default.ensures.none

pub returns-in-Some-outcome_at-clause-some : goal.returns-in-Some-outcome_at-clause-some
returns-in-Some-outcome_at-clause-some c =
    ap (λ (h : Outcomes). heard_of h c.args.id) (sym c.self.view_is)
    ∙ heard_there c.self.inside.names c.self.inside.outcomes.items c.args.id c.in-Some.place c.count-count.ensures.once c.in-Some.ensures.some
    ∙ (ap (λ os. slice_get os c.in-Some.place) (sym c.deref.ensures.value) ∙ sym c.outcome_at.ensures ∙ ap option_copied c.in-Some-outcome_at.is)

pub returns-in-None-clause-none : goal.returns-in-None-clause-none
returns-in-None-clause-none c =
    ap (λ (h : Outcomes). heard_of h c.args.id) (sym c.self.view_is)
    ∙ heard_there c.self.inside.names c.self.inside.outcomes.items c.args.id c.in-Some.place c.count-count.ensures.once c.in-Some.ensures.some
    ∙ (ap (λ os. slice_get os c.in-Some.place) (sym c.deref.ensures.value) ∙ sym c.outcome_at.ensures ∙ ap option_copied c.in-None.is)
