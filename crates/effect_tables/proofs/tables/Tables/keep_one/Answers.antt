use Rattle.std.proofs.Common.{[], ◌∷◌, refl, subst, arith}
use Rattle.std.specs.Vec.{with_item}
use Rattle.effect_tables.specs.declared.effect.Effect.{Effect}
use Rattle.effect_tables.specs.declared.tables.Tables.{Tables}
use Rattle.effect_tables.specs.Runs.{IsKept}
use Rattle.effect_tables.proofs.Found.{found_in, none_in, place_within}
use Rattle.effect_tables.proofs.Kept.{kept_does, kept_holds, kept_nowhere, kept_there}
use Rattle.effect_tables.proofs.tables.Tables.keep_one.Goals as goal

pub returns-in_default-clause-does : goal.returns-in_default-clause-does
returns-in_default-clause-does c =
    kept_does c.args.id (c.args.read ∷ []) c.args.self.now c.args.self.now refl
    (kept_nowhere c.args.id (c.args.read ∷ []) c.args.self.now.effects.items (none_in _ _ _ c.deref.ensures.value c.in_default.ensures))

pub index_mut-requires : goal.index_mut-requires
index_mut-requires c =
    let l = place_within c.args.id c.args.self.now.effects.items c.in-Some.place (found_in _ _ _ _ c.deref.ensures.value c.in-Some.ensures) in
    omega (arith, l)

pub returns-clause-does : goal.returns-clause-does
returns-clause-does c =
    let t : Tables = record (c.args.self.now) { effects = with_item (c.args.self.now.effects) c.in-Some.place c.keep_one_in.new.effect } in
    kept_does c.args.id (c.args.read ∷ []) c.args.self.now t refl
    (kept_there c.args.id (c.args.read ∷ []) 0 c.args.self.now.effects.items c.in-Some.place c.keep_one_in.new.effect c.index_mut.result.now c.requires.ordered.rising
    (found_in _ _ _ _ c.deref.ensures.value c.in-Some.ensures) (subst (λ (x : Effect). IsKept (c.args.read ∷ []) x c.keep_one_in.new.effect) c.index_mut.ensures.value c.in_ok-keep_one_in.ensures))

pub returns-clause-holds : goal.returns-clause-holds
returns-clause-holds c =
    let t : Tables = record (c.args.self.now) { effects = with_item (c.args.self.now.effects) c.in-Some.place c.keep_one_in.new.effect } in
    kept_holds c.args.id (c.args.read ∷ []) c.args.self.now t refl
    (kept_there c.args.id (c.args.read ∷ []) 0 c.args.self.now.effects.items c.in-Some.place c.keep_one_in.new.effect c.index_mut.result.now c.requires.ordered.rising
    (found_in _ _ _ _ c.deref.ensures.value c.in-Some.ensures) (subst (λ (x : Effect). IsKept (c.args.read ∷ []) x c.keep_one_in.new.effect) c.index_mut.ensures.value c.in_ok-keep_one_in.ensures))
    c.requires
