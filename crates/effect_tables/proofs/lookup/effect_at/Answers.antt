use Rattle.std.proofs.Common.{Some, ap, subst, sym, ◌∙◌, arith}
use Rattle.effect_tables.specs.declared.effect.Effect.{Effect}
use Rattle.effect_tables.specs.Scripts.{IsFitted}
use Rattle.effect_tables.specs.Placed.{effect_of}
use Rattle.effect_tables.proofs.Found.{found_in, no_effect, none_in, place_within, placed_all, placed_effect, where_none}
use Rattle.effect_tables.proofs.lookup.effect_at.Goals as goal

pub returns-in_err-place-clause-none : goal.returns-in_err-place-clause-none
returns-in_err-place-clause-none c =
    where_none _ _ (no_effect c.args.id c.args.tables.now.effects.items (none_in _ _ _ c.deref.ensures.value c.in_err-place.ensures))

pub index-requires : goal.index-requires
index-requires c =
    let l = place_within c.args.id c.args.tables.now.effects.items c.in_ok-place.place (found_in _ _ _ _ c.deref.ensures.value c.in_ok-place.ensures) in
    omega (arith, l)

pub returns-clause-some : goal.returns-clause-some
returns-clause-some c =
    placed_effect c.args.id c.args.tables.now.effects.items c.in_ok-place.place c.index.result.now (found_in _ _ _ _ c.deref.ensures.value c.in_ok-place.ensures)
    ∙ ap (λ (x : Effect). Some (effect_of x)) (sym c.index.ensures)

pub returns-clause-fitted : goal.returns-clause-fitted
returns-clause-fitted c =
    subst IsFitted (sym c.index.ensures)
    (placed_all IsFitted c.args.id c.args.tables.now.effects.items c.in_ok-place.place c.index.result.now (found_in _ _ _ _ c.deref.ensures.value c.in_ok-place.ensures) c.requires.fitting)
