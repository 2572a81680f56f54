use Rattle.std.proofs.Common.{rules}
use Rattle.std.proofs.lemmas.List.Sorted.{answers_always}
use Rattle.effect_tables.specs.declared.effect.Effect.{Effect}
use Rattle.effect_tables.proofs.Halves.{by_gap, by_hit}
use Rattle.effect_tables.proofs.lookup.place_by_halves.Goals as goal

pub returns-in-Ok : goal.returns-in-Ok
returns-in-Ok c =
    by_hit c.args.effects.now c.requires c.args.id _ c.in-Ok.place c.number.ensures c.in-Ok.ensures.bound
    (c.in-Ok.ensures.position (λ (x : Effect). x.id) (answers_always _ _ _ (λ f a r g called. search rules)))

pub returns-in-Err : goal.returns-in-Err
returns-in-Err c =
    by_gap c.args.effects.now c.requires c.args.id _ c.in-Err.field-0 c.number.ensures
    (c.in-Err.ensures.position (λ (x : Effect). x.id) (answers_always _ _ _ (λ f a r g called. search rules)))
