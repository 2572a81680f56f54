use Rattle.std.proofs.Common.{Some, ap, sym, ◌∙◌, arith}
use Rattle.effect_tables.specs.declared.effect.Effect.{Effect}
use Rattle.effect_tables.proofs.Shared.{found_in, none_in, place_within}
use Rattle.effect_teardown.proofs.Found.{placed_row, unplaced_row}
use Rattle.effect_teardown.proofs.lookup.effect_row.Goals as goal

pub returns-in_err-place : goal.returns-in_err-place
returns-in_err-place c =
    c.from_residual.ensures ∙ sym (unplaced_row c.args.id c.args.tables.now.effects.items (none_in _ _ _ c.deref.ensures.value c.in_err-place.ensures))

pub index-requires : goal.index-requires
index-requires c =
    let l = place_within c.args.id c.args.tables.now.effects.items c.in_ok-place.place (found_in _ _ _ _ c.deref.ensures.value c.in_ok-place.ensures) in
    omega (arith, l)

pub returns : goal.returns
returns c =
    ap (λ (x : Effect). Some x.row) c.index.ensures
    ∙ sym (placed_row c.args.id c.args.tables.now.effects.items c.in_ok-place.place c.index.result.now (found_in _ _ _ _ c.deref.ensures.value c.in_ok-place.ensures))
