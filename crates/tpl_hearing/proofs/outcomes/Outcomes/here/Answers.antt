use Rattle.std.proofs.Common.{slice_get, sym, ap, ◌∙◌}
use Rattle.tpl_hearing.specs.Heard.{Outcomes, heard_of}
use Rattle.tpl_hearing.proofs.Paired.{heard_there, shown}
use Rattle.tpl_hearing.proofs.outcomes.Outcomes.here.Goals as goal

pub returns : goal.returns
returns c =
    shown c.outcome_at.result (heard_of c.args.self.now c.args.id)
    (ap (λ (h : Outcomes). heard_of h c.args.id) (sym c.self.view_is)
    ∙ heard_there c.self.inside.names c.self.inside.outcomes.items c.args.id c.args.place c.count-count.ensures.once (c.is_at.ensures c.if-not-is_at.false)
    ∙ ap (λ os. slice_get os c.args.place) (sym c.deref.ensures.value) ∙ sym c.outcome_at.ensures)
