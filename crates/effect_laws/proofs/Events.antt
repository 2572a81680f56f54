-- Turns and flushes, whatever was told before.
use Rattle.std.proofs.Common.{◌≡◌, ℕ, zero, suc, ◌+◌, Bool, true, false, List, [], ◌∷◌, Option, Some, None, refl, ap, ◌∙◌}
use Rattle.effect_model.specs.Worlds.{Environment, Effect, Event, World, effect_at, effect_numbers}
use Rattle.effect_model.specs.Runs.{is_effect_due, value_now, look, Turned, after_look, at_place, turn_over, turn, Flushed, after_last, last_case, last_look}
use Rattle.effect_model.specs.Runs.{after_turn, flush_within}
use Rattle.effect_laws.specs.Events.{behind, flushed_behind, turned_behind, FlushesOnlyTell, TurnsOnlyTell}
use Rattle.effect_laws.proofs.Acts.{all_only_tell, look_only}

-- ---- turns

after_look_only : (env : Environment) (x : Effect) (due : Bool) (es : List Event) (w : World) (ran : Bool) →
    after_look env x due (behind es w) ran ≡ turned_behind es (after_look env x due w ran)
after_look_only env x true es w ran = ap (λ (v : World). record { world = v; ran = true }) ((all_only_tell.running env x).same es w)
after_look_only env x false es w ran = refl

place_only : (env : Environment) (o : Option Effect) (es : List Event) (t : Turned) → at_place env o (turned_behind es t) ≡ turned_behind es (at_place env o t)
place_only env None es t = refl
place_only env (Some x) es t =
    let due : Bool = is_effect_due (value_now env t.world) x.kept in
    ap (λ v. after_look env x due v t.ran) ((look_only env x).same es t.world) ∙ after_look_only env x due es (look env x t.world) t.ran

over_only : (env : Environment) (ids : List ℕ) (es : List Event) (t : Turned) → turn_over env ids (turned_behind es t) ≡ turned_behind es (turn_over env ids t)
over_only env [] es t = refl
over_only env (e ∷ ids) es t =
    ap (turn_over env ids) (place_only env (effect_at e t.world.effects) es t) ∙ over_only env ids es (at_place env (effect_at e t.world.effects) t)

pub turns_only_tell : TurnsOnlyTell
turns_only_tell env es w = over_only env (effect_numbers w.effects) es (record { world = w; ran = false })

-- ---- flushes

-- what goes on is the same whatever was told
abbrev GoesOn : (World → Flushed) → Type 0
GoesOn go = (es : List Event) (w : World) → go (behind es w) ≡ flushed_behind es (go w)

last_only : (due : Bool) (go : World → Flushed) → GoesOn go → (es : List Event) (w : World) → after_last due (behind es w) go ≡ flushed_behind es (after_last due w go)
last_only true go on es w = refl
last_only false go on es w = on es w

case_only : (env : Environment) (o : Option Effect) (go : World → Flushed) → GoesOn go → (es : List Event) (w : World) →
    last_case env o (behind es w) go ≡ flushed_behind es (last_case env o w go)
case_only env None go on es w = on es w
case_only env (Some x) go on es w =
    let due : Bool = is_effect_due (value_now env w) x.kept in
    ap (λ v. after_last due v go) ((look_only env x).same es w) ∙ last_only due go on es (look env x w)

pub last_only_tells : (env : Environment) (ids : List ℕ) (es : List Event) (w : World) → last_look env ids (behind es w) ≡ flushed_behind es (last_look env ids w)
last_only_tells env [] es w = refl
last_only_tells env (e ∷ ids) es w = case_only env (effect_at e w.effects) (last_look env ids) (last_only_tells env ids) es w

after_turn_only : (ran : Bool) (go : World → Flushed) → GoesOn go → (es : List Event) (w : World) → after_turn ran (behind es w) go ≡ flushed_behind es (after_turn ran w go)
after_turn_only true go on es w = ap (λ (f : Flushed). record f { turns = f.turns + 1 }) (on es w)
after_turn_only false go on es w = refl

within_only : (most : ℕ) (env : Environment) (es : List Event) (w : World) → flush_within most env (behind es w) ≡ flushed_behind es (flush_within most env w)
within_only zero env es w = last_only_tells env (effect_numbers w.effects) es w
within_only (suc more) env es w =
    let t : Turned = turn env w in
    ap (λ (u : Turned). after_turn u.ran u.world (flush_within more env)) (turns_only_tell env es w)
    ∙ after_turn_only t.ran (flush_within more env) (within_only more env) es t.world

pub flushes_only_tell : FlushesOnlyTell
flushes_only_tell env es w = within_only 100 env es w
