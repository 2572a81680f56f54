use Rattle.std.proofs.Common.{◌≡◌, ◌≤◌, length, nat_eq, None, take, sym, ap, subst, arith, ◌∙◌}
use Rattle.std.specs.List.{list_any}
use Rattle.tpl_hearing.specs.Heard.{Outcomes, heard_of}
use Rattle.tpl_hearing.proofs.Paired.{unlisted}
use Rattle.tpl_hearing.proofs.outcomes.Outcomes.put.Goals as goal

pub expect-requires-clause-new : goal.expect-requires-clause-new
expect-requires-clause-new c =
    let count = c.len.ensures in
    let long : c.len.result ≡ length c.self.inside.outcomes.items = omega (arith, count) in
    ap (λ k. list_any (nat_eq c.args.id) (take k c.self.inside.names)) long
    ∙ unlisted c.self.inside.names c.self.inside.outcomes.items c.args.id c.self.invariant
    (subst (λ (h : Outcomes). heard_of h c.args.id ≡ None) (sym c.self.view_is) c.requires)

pub invariant_of-self : goal.invariant_of-self
invariant_of-self c =
    let within = c.expect.ensures.within in
    let count = c.len.ensures in
    let low : length c.self.inside.outcomes.items ≤ length c.expect.new.names = omega (arith, within, count) in low
