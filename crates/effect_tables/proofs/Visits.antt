-- A turn and a last look, effect by effect.
use Rattle.std.proofs.Common.{◌≡◌, ℕ, zero, suc, Bool, true, false, ◌||◌, cond, List, [], ◌∷◌, ◌++◌, Option, Some, None, append-nil, refl, sym, ap, ◌∙◌}
use Rattle.effect_model.specs.Bodies.{Body, BodyEvaluation, body_evaluation}
use Rattle.effect_model.specs.Worlds.{Environment, Effect, World, effect_at, effect_numbers, settle}
use Rattle.effect_model.specs.Runs.{is_effect_due, value_now, look, keep_reads, do_result, run_body, run_effect, Turned, after_look, at_place, turn_over, turn, after_last, last_case, last_look}
use Rattle.signal_model.specs.Sound.{names_of}
use Rattle.effect_tables.specs.Roots.{Rests}
use Rattle.effect_tables.proofs.Acts.{all_rest, rests_then}
use Rattle.effect_tables.proofs.Trees.{listed_twice}
use Rattle.effect_tables.proofs.Turns.{looks_rest, turns_rest}
use Rattle.effect_tables.specs.Visits.{to_effect, glance, rerun, due_of, is_due, visit, visit_all, some_ran, glance_all}
use Rattle.effect_tables.specs.Turned.{after_turns}

-- ---- one more

pub visit_more : (env : Environment) (es : List ℕ) (e : ℕ) (w : World) → visit_all env (es ++ e ∷ []) w ≡ visit env e (visit_all env es w)
visit_more env [] e w = refl
visit_more env (x ∷ es) e w = visit_more env es e (visit env x w)

pub glance_more : (env : Environment) (es : List ℕ) (e : ℕ) (w : World) → glance_all env (es ++ e ∷ []) w ≡ glance env e (glance_all env es w)
glance_more env [] e w = refl
glance_more env (x ∷ es) e w = glance_more env es e (glance env x w)

or_swapped : (a b c : Bool) → (a || (b || c)) ≡ (b || (a || c))
or_swapped true true c = refl
or_swapped true false c = refl
or_swapped false true c = refl
or_swapped false false c = refl

or_turned : (a b c : Bool) → (b || (a || c)) ≡ ((a || b) || c)
or_turned true true c = refl
or_turned true false c = refl
or_turned false true c = refl
or_turned false false c = refl

pub ran_more : (env : Environment) (es : List ℕ) (e : ℕ) (w : World) → some_ran env (es ++ e ∷ []) w ≡ (is_due env e (visit_all env es w) || some_ran env es w)
ran_more env [] e w = refl
ran_more env (x ∷ es) e w =
    ap (λ b. is_due env x w || b) (ran_more env es e (visit env x w))
    ∙ or_swapped (is_due env x w) (is_due env e (visit_all env es (visit env x w))) (some_ran env es (visit env x w))

-- ---- turns

-- an effect at its place in a turn is visited
place_is : (env : Environment) (e : ℕ) (t : Turned) →
    at_place env (effect_at e t.world.effects) t ≡ record { world = visit env e t.world; ran = is_due env e t.world || t.ran }
place_is env e t = go (effect_at e t.world.effects) refl
  where
    w : World
    w = t.world

    after : (x : Effect) → effect_at e w.effects ≡ Some x → (b : Bool) →
        after_look env x b (look env x w) t.ran ≡ record { world = cond b (rerun env e (look env x w)) (look env x w); ran = b || t.ran }
    after x is true = ap (λ o. record { world = to_effect (run_effect env) o (look env x w); ran = true }) (sym is)
    after x is false = refl

    go : (o : Option Effect) → effect_at e w.effects ≡ o → at_place env o t ≡
        record {
          world = cond (due_of (value_now env w) o) (rerun env e (to_effect (look env) o w)) (to_effect (look env) o w);
          ran = due_of (value_now env w) o || t.ran;
        }
    go None is = refl
    go (Some x) is = after x is (is_effect_due (value_now env w) x.kept)

over_is : (env : Environment) (ids : List ℕ) (t : Turned) →
    turn_over env ids t ≡ record { world = visit_all env ids t.world; ran = some_ran env ids t.world || t.ran }
over_is env [] t = refl
over_is env (e ∷ ids) t =
    ap (turn_over env ids) (place_is env e t)
    ∙ over_is env ids (record { world = visit env e t.world; ran = is_due env e t.world || t.ran })
    ∙ ap (λ (b : Bool). record { world = visit_all env ids (visit env e t.world); ran = b })
    (or_turned (is_due env e t.world) (some_ran env ids (visit env e t.world)) t.ran)

or_none : (b : Bool) → (b || false) ≡ b
or_none true = refl
or_none false = refl

-- a turn visits the effects that live at its start
pub turn_world : (env : Environment) (w : World) → (turn env w).world ≡ visit_all env (effect_numbers w.effects) w
turn_world env w = ap (λ (t : Turned). t.world) (over_is env (effect_numbers w.effects) (record { world = w; ran = false }))

pub turn_ran : (env : Environment) (w : World) → (turn env w).ran ≡ some_ran env (effect_numbers w.effects) w
turn_ran env w =
    ap (λ (t : Turned). t.ran) (over_is env (effect_numbers w.effects) (record { world = w; ran = false }))
    ∙ or_none (some_ran env (effect_numbers w.effects) w)

-- ---- a last look

pub look_found : (env : Environment) (e : ℕ) (ids : List ℕ) (w : World) → is_due env e w ≡ true →
    last_look env (e ∷ ids) w ≡ record { world = glance env e w; turns = 0; refused = true }
look_found env e ids w due = go (effect_at e w.effects) due
  where
    go : (o : Option Effect) → due_of (value_now env w) o ≡ true →
        last_case env o w (last_look env ids) ≡ record { world = to_effect (look env) o w; turns = 0; refused = true }
    go None q = cc
    go (Some x) q = ap (λ b. after_last b (look env x w) (last_look env ids)) q

pub look_passed : (env : Environment) (e : ℕ) (ids : List ℕ) (w : World) → is_due env e w ≡ false →
    last_look env (e ∷ ids) w ≡ last_look env ids (glance env e w)
look_passed env e ids w due = go (effect_at e w.effects) due
  where
    go : (o : Option Effect) → due_of (value_now env w) o ≡ false → last_case env o w (last_look env ids) ≡ last_look env ids (to_effect (look env) o w)
    go None q = refl
    go (Some x) q = ap (λ b. after_last b (look env x w) (last_look env ids)) q

-- ---- worlds at rest

none_rests : Rests (λ w. w)
none_rests = record {
  whole = λ w h. λ i. record w { owned = listed_twice w.owned i; told = [] };
  told = λ w h. sym (append-nil w.told);
  bare = λ w h. h;
}

effect_rests : (act : Effect → World → World) → ((x : Effect) → Rests (act x)) → (e : ℕ) → Rests (λ w. to_effect act (effect_at e w.effects) w)
effect_rests act r e = record {
  whole = λ w h. (go (effect_at e w.effects)).whole w h;
  told = λ w h. (go (effect_at e w.effects)).told w h;
  bare = λ w h. (go (effect_at e w.effects)).bare w h;
}
  where
    go : (o : Option Effect) → Rests (to_effect act o)
    go None = none_rests
    go (Some x) = r x

pub glance_rests : (env : Environment) (e : ℕ) → Rests (glance env e)
glance_rests env e = effect_rests (look env) (all_rest.looking env) e

pub rerun_rests : (env : Environment) (e : ℕ) → Rests (rerun env e)
rerun_rests env e = effect_rests (run_effect env) (all_rest.running env) e

pub visit_rests : (env : Environment) (e : ℕ) → Rests (visit env e)
visit_rests env e = record {
  whole = λ w h. (go (is_due env e w)).whole w h;
  told = λ w h. (go (is_due env e w)).told w h;
  bare = λ w h. (go (is_due env e w)).bare w h;
}
  where
    go : (b : Bool) → Rests (λ w. cond b (rerun env e (glance env e w)) (glance env e w))
    go true = rests_then (glance env e) (rerun env e) (glance_rests env e) (rerun_rests env e)
    go false = glance_rests env e

pub visits_rest : (env : Environment) (es : List ℕ) → Rests (visit_all env es)
visits_rest env [] = none_rests
visits_rest env (e ∷ es) = rests_then (visit env e) (visit_all env es) (visit_rests env e) (visits_rest env es)

pub glances_rest : (env : Environment) (es : List ℕ) → Rests (glance_all env es)
glances_rest env [] = none_rests
glances_rest env (e ∷ es) = rests_then (glance env e) (glance_all env es) (glance_rests env e) (glances_rest env es)

pub turns_so_far_rest : (made : ℕ) (env : Environment) → Rests (after_turns made env)
turns_so_far_rest zero env = none_rests
turns_so_far_rest (suc made) env = rests_then (after_turns made env) (λ w. (turn env w).world) (turns_so_far_rest made env) ((turns_rest env).world)

pub last_rests : (env : Environment) → Rests (λ w. (last_look env (effect_numbers w.effects) w).world)
last_rests env = record {
  whole = λ w h. (looks_rest env (effect_numbers w.effects)).world.whole w h;
  told = λ w h. (looks_rest env (effect_numbers w.effects)).world.told w h;
  bare = λ w h. (looks_rest env (effect_numbers w.effects)).world.bare w h;
}

evaluated_rests : (env : Environment) (e : ℕ) (b : BodyEvaluation) → Rests (run_body env e b)
evaluated_rests env e b =
    rests_then (λ w. keep_reads e b.tracked (settle env (names_of b.reads) w)) (do_result env e b.result)
    (rests_then (settle env (names_of b.reads)) (keep_reads e b.tracked) (all_rest.settling env (names_of b.reads)) (all_rest.keeping e b.tracked))
    (all_rest.ending env e b.result)

-- a body that is evaluated on the signals as they stand
pub body_rests : (env : Environment) (e : ℕ) (body : Body) → Rests (λ w. run_body env e (body_evaluation env.hosts w.signals body) w)
body_rests env e body = record {
  whole = λ w h. (evaluated_rests env e (body_evaluation env.hosts w.signals body)).whole w h;
  told = λ w h. (evaluated_rests env e (body_evaluation env.hosts w.signals body)).told w h;
  bare = λ w h. (evaluated_rests env e (body_evaluation env.hosts w.signals body)).bare w h;
}
