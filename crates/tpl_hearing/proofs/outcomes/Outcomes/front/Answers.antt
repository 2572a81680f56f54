use Rattle.std.proofs.Common.{length, take, ap, arith, ◌∙◌}
use Rattle.std.specs.List.{zip}
use Rattle.tpl_hearing.proofs.Paired.{count_paired, taken_paired}
use Rattle.tpl_hearing.proofs.outcomes.Outcomes.front.Goals as goal

pub copy_front-requires : goal.copy_front-requires
copy_front-requires c =
    let view = ap length c.self.view_is in
    let long = count_paired c.self.inside.names c.self.inside.outcomes.items c.self.invariant in
    let whole = ap length c.deref.ensures.value in
    let most = c.requires in omega (arith, view, long, whole, most)

pub returns : goal.returns
returns c =
    ap (λ ns. zip ns c.in_ok-outcomes.outcomes.items) c.in_ok-names.ensures
    ∙ ap (zip c.self.inside.names) (c.in_ok-outcomes.ensures ∙ ap (take c.args.count) c.deref.ensures.value)
    ∙ taken_paired c.self.inside.names c.self.inside.outcomes.items c.args.count ∙ ap (take c.args.count) c.self.view_is
