use Rattle.std.proofs.Common.{sym, ap, arith, ◌∙◌}
use Rattle.std.proofs.lemmas.Option.{slice_get_past}
use Rattle.tpl_hearing.specs.Heard.{Outcomes, heard_of}
use Rattle.tpl_hearing.proofs.Paired.{heard_there}
use Rattle.tpl_hearing.proofs.outcomes.Outcomes.is_next.Goals as goal

pub returns : goal.returns
returns c = λ e.
    let count = c.len.ensures in
    ap (λ (h : Outcomes). heard_of h c.args.id) (sym c.self.view_is)
    ∙ heard_there c.self.inside.names c.self.inside.outcomes.items c.args.id c.len.result c.count-count.ensures.once (c.is_at.ensures e)
    ∙ slice_get_past c.self.inside.outcomes.items c.len.result (omega (arith, count))
