use Rattle.std.proofs.Common.{◌≡◌, ◌∷◌, ◌++◌, [], length, slice_get, Some, sym, ap, arith, ◌∙◌}
use Rattle.std.specs.List.{zip}
use Rattle.std.proofs.lemmas.Option.{slice_get_past}
use Rattle.tpl_hearing.specs.Heard.{Outcomes, heard_of}
use Rattle.tpl_hearing.proofs.Paired.{heard_there, next_paired}
use Rattle.tpl_hearing.proofs.outcomes.Outcomes.put_next.Goals as goal

pub returns-clause-new : goal.returns-clause-new
returns-clause-new c = λ e.
    let count = c.len.ensures in
    ap (λ (h : Outcomes). heard_of h c.args.id) (sym c.self.view_is)
    ∙ heard_there c.self.inside.names c.self.inside.outcomes.items c.args.id c.len.result c.count-count.ensures.once (c.is_at.ensures c.if-not-is_at.false)
    ∙ slice_get_past c.self.inside.outcomes.items c.len.result (omega (arith, count))

pub returns-clause-put : goal.returns-clause-put
returns-clause-put c = λ e.
    let count = c.len.ensures in
    let os = c.self.inside.outcomes.items in
    let long : c.len.result ≡ length os = omega (arith, count) in
    let at : slice_get c.self.inside.names (length os) ≡ Some c.args.id = ap (slice_get c.self.inside.names) (sym long) ∙ c.is_at.ensures c.if-not-is_at.false in
    ap (zip c.self.inside.names) c.in_ok-push_copy.ensures.put ∙ next_paired c.self.inside.names os c.args.id c.args.outcome.now at
    ∙ ap (λ (h : Outcomes). h ++ (c.args.id, c.args.outcome.now) ∷ []) c.self.view_is

pub invariant_of-self : goal.invariant_of-self
invariant_of-self c =
    let low = c.self.invariant in
    let same = ap length c.in_err-push_copy.ensures.other in omega (arith, low, same)
