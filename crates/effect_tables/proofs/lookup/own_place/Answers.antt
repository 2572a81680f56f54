use Rattle.std.proofs.Common.{sym, ◌∙◌, arith}
use Rattle.effect_tables.proofs.Halves.{by_number}
use Rattle.effect_tables.proofs.lookup.own_place.Goals as goal

pub returns-then-eq : goal.returns-then-eq
returns-then-eq c =
    by_number c.args.effects.now c.requires c.args.id _ c.index-effects-place.result (omega arith) (sym c.eq.ensures ∙ c.if-eq.true)
