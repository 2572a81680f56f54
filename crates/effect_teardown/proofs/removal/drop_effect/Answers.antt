use Rattle.std.proofs.Common.{◌∙◌, ap, sym, arith, Some}
use Rattle.effect_tables.specs.declared.effect.Effect.{Effect}
use Rattle.effect_tables.proofs.Shared.{found_in, none_in, place_within}
use Rattle.effect_teardown.proofs.Found.{placed_row, unplaced_row}
use Rattle.effect_teardown.proofs.Lists.{left_out, none_left_out}
use Rattle.effect_teardown.proofs.removal.drop_effect.Goals as goal

pub returns-in_default-clause-row : goal.returns-in_default-clause-row
returns-in_default-clause-row c = sym (unplaced_row c.args.id c.args.effects.now.items (none_in _ _ _ c.deref.ensures.value c.in_default.ensures))

pub returns-in_default-clause-left : goal.returns-in_default-clause-left
returns-in_default-clause-left c = sym (none_left_out c.args.id c.args.effects.now.items (none_in _ _ _ c.deref.ensures.value c.in_default.ensures))

pub remove-effect-requires : goal.remove-effect-requires
remove-effect-requires c =
    let l = place_within c.args.id c.args.effects.now.items c.in-Some.place (found_in _ _ _ _ c.deref.ensures.value c.in-Some.ensures) in
    omega (arith, l)

pub returns-clause-row : goal.returns-clause-row
returns-clause-row c =
    ap (λ (x : Effect). Some x.row) c.remove-effect.ensures.value
    ∙ sym (placed_row c.args.id c.args.effects.now.items c.in-Some.place c.remove-effect.result (found_in _ _ _ _ c.deref.ensures.value c.in-Some.ensures))

pub returns-clause-left : goal.returns-clause-left
returns-clause-left c =
    c.remove-effect.ensures.items ∙ sym (left_out c.args.id 0 c.args.effects.now.items c.in-Some.place c.requires (found_in _ _ _ _ c.deref.ensures.value c.in-Some.ensures))
