use Rattle.std.proofs.Common.{◌+◌, ◌++◌, ◌∷◌, [], length, Some, sym, ap, ◌∙◌}
use Rattle.effect_tables.specs.Owners.{living}
use Rattle.effect_tables.proofs.Gone.{counted_more}
use Rattle.effect_tables.proofs.owner_rows.OwnerRows.add.Goals as goal

pub invariant_of-self-2 : goal.invariant_of-self-2
invariant_of-self-2 c =
    c.in_ok-live.ensures ∙ ap (λ k. k + 1) c.self.invariant
    ∙ sym (ap (λ es. length (living 0 es)) (c.push.ensures.entries ∙ ap (λ es. es ++ Some c.args.row ∷ []) c.reserve.ensures.entries)
    ∙ counted_more c.self.inside.rows.entries c.args.row)
