-- Visits, looks and turns, one after the other.
use Rattle.std.proofs.Common.{◌≡◌, ℕ, suc, ◌+◌, ◌-◌, ◌<◌, ◌≤◌, Bool, true, false, cond, List, [], ◌∷◌, ◌++◌, Option, Some, None, drop, get_or, length, take, refl, sym, ap, ◌∙◌, arith}
use Rattle.std.proofs.lemmas.List.{drop_all, drop_more, take_more}
use Rattle.signal_model.specs.Recipes.{Hosts}
use Rattle.effect_model.specs.Worlds as plain
use Rattle.effect_model.specs.Owners.{the_owner}
use Rattle.effect_model.specs.Worlds.{effect_at, effect_numbers}
use Rattle.effect_model.specs.Runs.{Flushed, after_last, flush, flush_within, is_effect_due, last_case, last_look, look, turn, value_now}
use Rattle.effect_tables.specs.Placed.{tree_of}
use Rattle.effect_tables.specs.Roots.{AreBare}
use Rattle.effect_tables.proofs.Shared.{looks_rest, turns_rest, at_end, at_start, glance_more, glance_rests, glances_rest, goes_on, last_rests, look_found, look_passed, rerun_rests, turn_ran, turn_world, turns_so_far_rest}
use Rattle.sig_effect.specs.Stores.{environment}
use Rattle.effect_tables.specs.Visits.{glance, glance_all, is_due, rerun, some_ran, visit, visit_all}
use Rattle.effect_tables.specs.Turned.{added, after_turns}
use Rattle.effect_acts.proofs.SharedActs.{formed_bare}
use Rattle.effect_world.specs.Signals.{Scene}
use Rattle.effect_world.specs.Stores.{Agrees, IsSound}
use Rattle.effect_world.specs.Wholes.{whole_of}
use Rattle.effect_turns.specs.Runs.{Runs}
use Rattle.effect_turns.proofs.Carried.{runs_as}
use Rattle.effect_turns.proofs.Sequences.{runs_then}

-- the plain world that a scene stands for
abbrev pub seen : Scene → plain.World
seen x = whole_of x.asked x.world

-- what stands is bare
pub bare_seen : (x : Scene) → Agrees x.asked x.world → AreBare (seen x).owned
bare_seen x a = formed_bare (the_owner 0) (tree_of x.world.tables) a.owned.formed.formed

-- ---- visits

-- an effect that isn't due is only looked at
pub visit_passed : (slacks : List ℕ) (old new : Scene) (first last : Hosts → Type 0) (e : ℕ) (due : Bool) → due ≡ false →
    ((hosts : Hosts) → first hosts → IsSound hosts old.asked old.world → due ≡ is_due (environment hosts slacks) e (seen old)) →
    Runs slacks old new first last (λ env. glance env e) → Runs slacks old new first last (λ env. visit env e)
visit_passed slacks old new first last e due off is p =
    runs_as slacks old new first last (λ env. glance env e) (λ env. visit env e)
    (λ hosts all sound.
    let env : plain.Environment = environment hosts slacks in
    ap (λ b. cond b (rerun env e (glance env e (seen old))) (glance env e (seen old))) (sym off ∙ is hosts all sound)) p

pub due_passed : (b due : Bool) → due ≡ false → due ≡ b → false ≡ b
due_passed b due off is = sym off ∙ is

pub due_found : (b due : Bool) → due ≡ true → due ≡ b → true ≡ b
due_found b due yes' is = sym yes' ∙ is

-- one that is due runs
pub visit_found : (slacks : List ℕ) (old mid new : Scene) (first between last : Hosts → Type 0) (e : ℕ) (due : Bool) → due ≡ true →
    ((hosts : Hosts) → first hosts → IsSound hosts old.asked old.world → due ≡ is_due (environment hosts slacks) e (seen old)) → Agrees old.asked old.world →
    Runs slacks old mid first between (λ env. glance env e) → Runs slacks mid new between last (λ env. rerun env e) → Runs slacks old new first last (λ env. visit env e)
visit_found slacks old mid new first between last e due yes' is a p q =
    runs_as slacks old new first last (λ env w. rerun env e (glance env e w)) (λ env. visit env e)
    (λ hosts all sound.
    let env : plain.Environment = environment hosts slacks in
    ap (λ b. cond b (rerun env e (glance env e (seen old))) (glance env e (seen old))) (sym yes' ∙ is hosts all sound))
    (runs_then slacks old mid new first between last (λ env. glance env e) (λ env. rerun env e) a (λ env. glance_rests env e) (λ env. rerun_rests env e) p q)

-- the numbers so far, and one more
one_more : (ids : List ℕ) (i item : ℕ) → i < length ids → item ≡ get_or ids i item → take (i + 1) ids ≡ take i ids ++ item ∷ []
one_more ids i item l is = take_more ids i item l ∙ ap (λ e. take i ids ++ e ∷ []) (sym is)

-- a turn visits all effects
pub turn_done : (slacks : List ℕ) (old new : Scene) (first last : Hosts → Type 0) (ids : List ℕ) → ids ≡ effect_numbers (seen old).effects →
    Runs slacks old new first last (λ env. visit_all env ids) → Runs slacks old new first last (λ env w. (turn env w).world)
turn_done slacks old new first last ids is p =
    runs_as slacks old new first last (λ env. visit_all env ids) (λ env w. (turn env w).world)
    (λ hosts all sound.
    let env : plain.Environment = environment hosts slacks in
    ap (λ es. visit_all env es (seen old)) is ∙ sym (turn_world env (seen old))) p

pub turn_says : (env : plain.Environment) (w : plain.World) (ids : List ℕ) (ran : Bool) → ids ≡ effect_numbers w.effects → ran ≡ some_ran env ids w → ran ≡ (turn env w).ran
turn_says env w ids ran is so = so ∙ ap (λ es. some_ran env es w) is ∙ sym (turn_ran env w)

-- ---- looks

pub glances_next : (slacks : List ℕ) (old mid new : Scene) (first between last : Hosts → Type 0) (ids : List ℕ) (i item : ℕ) → i < length ids → item ≡ get_or ids i item →
    Agrees old.asked old.world → Runs slacks old mid first between (λ env. glance_all env (take i ids)) → Runs slacks mid new between last (λ env. glance env item) →
    Runs slacks old new first last (λ env. glance_all env (take (i + 1) ids))
glances_next slacks old mid new first between last ids i item l is a p q =
    runs_as slacks old new first last (λ env w. glance env item (glance_all env (take i ids) w)) (λ env. glance_all env (take (i + 1) ids))
    (λ hosts all sound.
    let env : plain.Environment = environment hosts slacks in
    sym (ap (λ es. glance_all env es (seen old)) (one_more ids i item l is) ∙ glance_more env (take i ids) item (seen old)))
    (runs_then slacks old mid new first between last (λ env. glance_all env (take i ids)) (λ env. glance env item) a (λ env. glances_rest env (take i ids)) (λ env. glance_rests env item) p q)

-- what is left to be looked at
pub record IsLeft (old : Scene) (first : Hosts → Type 0) (ids : List ℕ) (i : ℕ) : Type 0 where
  pub left : (hosts : Hosts) (slacks : List ℕ) → first hosts → IsSound hosts old.asked old.world →
      last_look (environment hosts slacks) ids (seen old)
      ≡ last_look (environment hosts slacks) (drop i ids) (glance_all (environment hosts slacks) (take i ids) (seen old))

-- an effect is due or not as it is after the looks so far
due_here : (slacks : List ℕ) (old mid : Scene) (first between : Hosts → Type 0) (es : List ℕ) (e : ℕ) (due : Bool) → Runs slacks old mid first between (λ env. glance_all env es) →
    ((hosts : Hosts) (ss : List ℕ) → between hosts → IsSound hosts mid.asked mid.world → due ≡ is_due (environment hosts ss) e (seen mid)) →
    (hosts : Hosts) → first hosts → IsSound hosts old.asked old.world → due ≡ is_due (environment hosts slacks) e (glance_all (environment hosts slacks) es (seen old))
due_here slacks old mid first between es e due p now hosts all sound =
    let d = p.does hosts all sound in
    now hosts slacks (p.answers hosts all) d.sound ∙ ap (is_due (environment hosts slacks) e) d.whole

front : (ids : List ℕ) (i item : ℕ) → i < length ids → item ≡ get_or ids i item → drop i ids ≡ item ∷ drop (i + 1) ids
front ids i item l is = drop_more ids i item l ∙ ap (λ e. e ∷ drop (i + 1) ids) (sym is)

pub left_next : (old mid : Scene) (first between : Hosts → Type 0) (ids : List ℕ) (i item : ℕ) (due : Bool) → i < length ids → item ≡ get_or ids i item → due ≡ false →
    ((slacks : List ℕ) → Runs slacks old mid first between (λ env. glance_all env (take i ids))) →
    ((hosts : Hosts) (ss : List ℕ) → between hosts → IsSound hosts mid.asked mid.world → due ≡ is_due (environment hosts ss) item (seen mid)) →
    IsLeft old first ids i → IsLeft old first ids (i + 1)
left_next old mid first between ids i item due l is off p now left = record {
  left = λ hosts slacks all sound.
      let env : plain.Environment = environment hosts slacks in
      let v : plain.World = glance_all env (take i ids) (seen old) in
      left.left hosts slacks all sound ∙ ap (λ es. last_look env es v) (front ids i item l is)
      ∙ look_passed env item (drop (i + 1) ids) v (sym (due_here slacks old mid first between (take i ids) item due (p slacks) now hosts all sound) ∙ off)
      ∙ sym (ap (last_look env (drop (i + 1) ids)) (ap (λ es. glance_all env es (seen old)) (one_more ids i item l is) ∙ glance_more env (take i ids) item (seen old)));
}

-- one that is due ends the look
found_here : (old mid : Scene) (first between : Hosts → Type 0) (ids : List ℕ) (i item : ℕ) (due : Bool) → i < length ids → item ≡ get_or ids i item → due ≡ true →
    ((slacks : List ℕ) → Runs slacks old mid first between (λ env. glance_all env (take i ids))) →
    ((hosts : Hosts) (ss : List ℕ) → between hosts → IsSound hosts mid.asked mid.world → due ≡ is_due (environment hosts ss) item (seen mid)) →
    IsLeft old first ids i → (hosts : Hosts) (slacks : List ℕ) → first hosts → IsSound hosts old.asked old.world →
    last_look (environment hosts slacks) ids (seen old)
    ≡ record { world = glance (environment hosts slacks) item (glance_all (environment hosts slacks) (take i ids) (seen old)); turns = 0; refused = true }
found_here old mid first between ids i item due l is yes' p now left hosts slacks all sound =
    let env : plain.Environment = environment hosts slacks in
    let v : plain.World = glance_all env (take i ids) (seen old) in
    left.left hosts slacks all sound ∙ ap (λ es. last_look env es v) (front ids i item l is)
    ∙ look_found env item (drop (i + 1) ids) v (sym (due_here slacks old mid first between (take i ids) item due (p slacks) now hosts all sound) ∙ yes')

pub found_refused : (old mid : Scene) (first between : Hosts → Type 0) (ids : List ℕ) (i item : ℕ) (due : Bool) → i < length ids → item ≡ get_or ids i item → due ≡ true →
    ((slacks : List ℕ) → Runs slacks old mid first between (λ env. glance_all env (take i ids))) →
    ((hosts : Hosts) (ss : List ℕ) → between hosts → IsSound hosts mid.asked mid.world → due ≡ is_due (environment hosts ss) item (seen mid)) →
    IsLeft old first ids i → (hosts : Hosts) (slacks : List ℕ) → first hosts → IsSound hosts old.asked old.world →
    true ≡ (last_look (environment hosts slacks) ids (seen old)).refused
found_refused old mid first between ids i item due l is yes' p now left hosts slacks all sound =
    sym (ap (λ (f : Flushed). f.refused) (found_here old mid first between ids i item due l is yes' p now left hosts slacks all sound))

pub found_done : (slacks : List ℕ) (old mid new : Scene) (first between last : Hosts → Type 0) (ids : List ℕ) (i item : ℕ) (due : Bool) → i < length ids → item ≡ get_or ids i item → due ≡ true →
    ((ss : List ℕ) → Runs ss old mid first between (λ env. glance_all env (take i ids))) →
    ((hosts : Hosts) (ss : List ℕ) → between hosts → IsSound hosts mid.asked mid.world → due ≡ is_due (environment hosts ss) item (seen mid)) →
    IsLeft old first ids i → Agrees old.asked old.world → Runs slacks mid new between last (λ env. glance env item) →
    Runs slacks old new first last (λ env w. (last_look env ids w).world)
found_done slacks old mid new first between last ids i item due l is yes' p now left a q =
    runs_as slacks old new first last (λ env w. glance env item (glance_all env (take i ids) w)) (λ env w. (last_look env ids w).world)
    (λ hosts all sound. sym (ap (λ (f : Flushed). f.world) (found_here old mid first between ids i item due l is yes' p now left hosts slacks all sound)))
    (runs_then slacks old mid new first between last (λ env. glance_all env (take i ids)) (λ env. glance env item) a (λ env. glances_rest env (take i ids)) (λ env. glance_rests env item) (p slacks) q)

-- none of them is due
none_here : (old : Scene) (first : Hosts → Type 0) (ids : List ℕ) (i : ℕ) → length ids ≤ i → IsLeft old first ids i →
    (hosts : Hosts) (slacks : List ℕ) → first hosts → IsSound hosts old.asked old.world →
    last_look (environment hosts slacks) ids (seen old)
    ≡ record { world = glance_all (environment hosts slacks) (take i ids) (seen old); turns = 0; refused = false }
none_here old first ids i l left hosts slacks all sound =
    let env : plain.Environment = environment hosts slacks in
    left.left hosts slacks all sound ∙ ap (λ es. last_look env es (glance_all env (take i ids) (seen old))) (drop_all i ids l)

pub none_refused : (old : Scene) (first : Hosts → Type 0) (ids : List ℕ) (i : ℕ) → length ids ≤ i → IsLeft old first ids i →
    (hosts : Hosts) (slacks : List ℕ) → first hosts → IsSound hosts old.asked old.world → false ≡ (last_look (environment hosts slacks) ids (seen old)).refused
none_refused old first ids i l left hosts slacks all sound = sym (ap (λ (f : Flushed). f.refused) (none_here old first ids i l left hosts slacks all sound))

pub none_done : (slacks : List ℕ) (old new : Scene) (first last : Hosts → Type 0) (ids : List ℕ) (i : ℕ) → length ids ≤ i → IsLeft old first ids i →
    Runs slacks old new first last (λ env. glance_all env (take i ids)) → Runs slacks old new first last (λ env w. (last_look env ids w).world)
none_done slacks old new first last ids i l left p =
    runs_as slacks old new first last (λ env. glance_all env (take i ids)) (λ env w. (last_look env ids w).world)
    (λ hosts all sound. sym (ap (λ (f : Flushed). f.world) (none_here old first ids i l left hosts slacks all sound))) p

pub look_done : (slacks : List ℕ) (old new : Scene) (first last : Hosts → Type 0) (ids : List ℕ) → ids ≡ effect_numbers (seen old).effects →
    Runs slacks old new first last (λ env w. (last_look env ids w).world) → Runs slacks old new first last (λ env w. (last_look env (effect_numbers w.effects) w).world)
look_done slacks old new first last ids is p =
    runs_as slacks old new first last (λ env w. (last_look env ids w).world) (λ env w. (last_look env (effect_numbers w.effects) w).world)
    (λ hosts all sound. ap (λ es. (last_look (environment hosts slacks) es (seen old)).world) is) p

pub look_says : (env : plain.Environment) (w : plain.World) (ids : List ℕ) (due : Bool) → ids ≡ effect_numbers w.effects → due ≡ (last_look env ids w).refused →
    due ≡ (last_look env (effect_numbers w.effects) w).refused
look_says env w ids due is so = so ∙ ap (λ es. (last_look env es w).refused) is

-- ---- turns of a flush

pub turn_next : (slacks : List ℕ) (old mid new : Scene) (first between last : Hosts → Type 0) (made : ℕ) → Agrees old.asked old.world →
    Runs slacks old mid first between (after_turns made) → Runs slacks mid new between last (λ env w. (turn env w).world) → Runs slacks old new first last (after_turns (made + 1))
turn_next slacks old mid new first between last made a p q =
    runs_as slacks old new first last (λ env w. (turn env (after_turns made env w)).world) (after_turns (made + 1))
    (λ hosts all sound. ap (λ n. after_turns n (environment hosts slacks) (seen old)) (let e : suc made ≡ made + 1 = omega arith in e))
    (runs_then slacks old mid new first between last (after_turns made) (λ env w. (turn env w).world) a (turns_so_far_rest made) (λ env. (turns_rest env).world) p q)

-- so far a flush is that of the turns so far, and what comes after
pub record IsSoFar (slacks : List ℕ) (old : Scene) (first : Hosts → Type 0) (made : ℕ) : Type 0 where
  pub so : (hosts : Hosts) → first hosts → IsSound hosts old.asked old.world →
      flush (environment hosts slacks) (seen old)
      ≡ added made (flush_within (100 - made) (environment hosts slacks) (after_turns made (environment hosts slacks) (seen old)))

pub so_at_first : (slacks : List ℕ) (old : Scene) (first : Hosts → Type 0) → IsSoFar slacks old first 0
so_at_first slacks old first = record { so = λ hosts all sound. at_start (environment hosts slacks) (seen old) }

-- whether the turn ran an effect of the world after the turns so far
ran_here : (slacks : List ℕ) (old mid : Scene) (first between : Hosts → Type 0) (made : ℕ) (ran : Bool) → Agrees old.asked old.world → Runs slacks old mid first between (after_turns made) →
    ((hosts : Hosts) → between hosts → IsSound hosts mid.asked mid.world → ran ≡ (turn (environment hosts slacks) (seen mid)).ran) →
    (hosts : Hosts) → first hosts → IsSound hosts old.asked old.world → ran ≡ (turn (environment hosts slacks) (after_turns made (environment hosts slacks) (seen old))).ran
ran_here slacks old mid first between made ran a p now hosts all sound =
    let env : plain.Environment = environment hosts slacks in
    let d = p.does hosts all sound in
    now hosts (p.answers hosts all) d.sound ∙ ap (λ w. (turn env w).ran) d.whole
    ∙ (turns_rest env).ran (after_turns made env (seen old)) ((turns_so_far_rest made env).bare (seen old) (bare_seen old a))

pub so_next : (slacks : List ℕ) (old mid : Scene) (first between : Hosts → Type 0) (made : ℕ) (ran : Bool) → made < 100 → ran ≡ true → Agrees old.asked old.world →
    Runs slacks old mid first between (after_turns made) →
    ((hosts : Hosts) → between hosts → IsSound hosts mid.asked mid.world → ran ≡ (turn (environment hosts slacks) (seen mid)).ran) →
    IsSoFar slacks old first made → IsSoFar slacks old first (made + 1)
so_next slacks old mid first between made ran l yes' a p now so = record {
  so = λ hosts all sound.
      (goes_on (environment hosts slacks) (seen old) made l).ran (sym (ran_here slacks old mid first between made ran a p now hosts all sound) ∙ yes') (so.so hosts all sound);
}

-- a turn that ran none ends the flush
rest_here : (slacks : List ℕ) (old mid : Scene) (first between : Hosts → Type 0) (made : ℕ) (ran : Bool) → made < 100 → ran ≡ false → Agrees old.asked old.world →
    Runs slacks old mid first between (after_turns made) →
    ((hosts : Hosts) → between hosts → IsSound hosts mid.asked mid.world → ran ≡ (turn (environment hosts slacks) (seen mid)).ran) →
    IsSoFar slacks old first made → (hosts : Hosts) → first hosts → IsSound hosts old.asked old.world →
    flush (environment hosts slacks) (seen old) ≡ record { world = after_turns (made + 1) (environment hosts slacks) (seen old); turns = made; refused = false }
rest_here slacks old mid first between made ran l off a p now so hosts all sound =
    (goes_on (environment hosts slacks) (seen old) made l).ends (sym (ran_here slacks old mid first between made ran a p now hosts all sound) ∙ off) (so.so hosts all sound)

pub rest_says : (slacks : List ℕ) (old mid : Scene) (first between : Hosts → Type 0) (made : ℕ) (ran : Bool) → made < 100 → ran ≡ false → Agrees old.asked old.world →
    Runs slacks old mid first between (after_turns made) →
    ((hosts : Hosts) → between hosts → IsSound hosts mid.asked mid.world → ran ≡ (turn (environment hosts slacks) (seen mid)).ran) →
    IsSoFar slacks old first made → (hosts : Hosts) → first hosts → IsSound hosts old.asked old.world →
    (made ≡ (flush (environment hosts slacks) (seen old)).turns) × (false ≡ (flush (environment hosts slacks) (seen old)).refused)
rest_says slacks old mid first between made ran l off a p now so hosts all sound =
    let e = rest_here slacks old mid first between made ran l off a p now so hosts all sound in
    (sym (ap (λ (f : Flushed). f.turns) e), sym (ap (λ (f : Flushed). f.refused) e))

pub rest_done : (slacks : List ℕ) (old mid new : Scene) (first between last : Hosts → Type 0) (made : ℕ) (ran : Bool) → made < 100 → ran ≡ false → Agrees old.asked old.world →
    Runs slacks old mid first between (after_turns made) →
    ((hosts : Hosts) → between hosts → IsSound hosts mid.asked mid.world → ran ≡ (turn (environment hosts slacks) (seen mid)).ran) →
    IsSoFar slacks old first made → Runs slacks mid new between last (λ env w. (turn env w).world) → Runs slacks old new first last (λ env w. (flush env w).world)
rest_done slacks old mid new first between last made ran l off a p now so q =
    runs_as slacks old new first last (after_turns (made + 1)) (λ env w. (flush env w).world)
    (λ hosts all sound. sym (ap (λ (f : Flushed). f.world) (rest_here slacks old mid first between made ran l off a p now so hosts all sound)))
    (turn_next slacks old mid new first between last made a p q)

-- ---- the end of a flush

none_last : (due : Bool) (v : plain.World) (go : plain.World → Flushed) → ((w : plain.World) → (go w).turns ≡ 0) → (after_last due v go).turns ≡ 0
none_last true v go so = refl
none_last false v go so = so v

none_case : (env : plain.Environment) (o : Option plain.Effect) (w : plain.World) (go : plain.World → Flushed) → ((v : plain.World) → (go v).turns ≡ 0) →
    (last_case env o w go).turns ≡ 0
none_case env None w go so = so w
none_case env (Some x) w go so = none_last (is_effect_due (value_now env w) x.kept) (look env x w) go so

no_turns : (env : plain.Environment) (ids : List ℕ) (w : plain.World) → (last_look env ids w).turns ≡ 0
no_turns env [] w = refl
no_turns env (e ∷ ids) w = none_case env (effect_at e w.effects) w (last_look env ids) (no_turns env ids)

end_here : (slacks : List ℕ) (old : Scene) (first : Hosts → Type 0) (made : ℕ) → 100 ≤ made → IsSoFar slacks old first made →
    (hosts : Hosts) → first hosts → IsSound hosts old.asked old.world →
    flush (environment hosts slacks) (seen old)
    ≡ added made (last_look (environment hosts slacks) (effect_numbers (after_turns made (environment hosts slacks) (seen old)).effects)
    (after_turns made (environment hosts slacks) (seen old)))
end_here slacks old first made l so hosts all sound =
    at_end made (environment hosts slacks) (seen old) (after_turns made (environment hosts slacks) (seen old)) l (so.so hosts all sound)

pub end_says : (slacks : List ℕ) (old mid : Scene) (first between : Hosts → Type 0) (made : ℕ) (due : Bool) → 100 ≤ made → Agrees old.asked old.world →
    Runs slacks old mid first between (after_turns made) →
    ((hosts : Hosts) (ss : List ℕ) → between hosts → IsSound hosts mid.asked mid.world → due ≡ (last_look (environment hosts ss) (effect_numbers (seen mid).effects) (seen mid)).refused) →
    IsSoFar slacks old first made → (hosts : Hosts) → first hosts → IsSound hosts old.asked old.world →
    (made ≡ (flush (environment hosts slacks) (seen old)).turns) × (due ≡ (flush (environment hosts slacks) (seen old)).refused)
end_says slacks old mid first between made due l a p now so hosts all sound =
    let env : plain.Environment = environment hosts slacks in
    let v : plain.World = after_turns made env (seen old) in
    let d = p.does hosts all sound in
    let e = end_here slacks old first made l so hosts all sound in
    let none : (last_look env (effect_numbers v.effects) v).turns ≡ 0 = no_turns env (effect_numbers v.effects) v in
    let n : 0 + made ≡ made = omega arith in (
      sym (ap (λ (f : Flushed). f.turns) e ∙ ap (λ k. k + made) none ∙ n),
      now hosts slacks (p.answers hosts all) d.sound ∙ ap (λ (w : plain.World). (last_look env (effect_numbers w.effects) w).refused) d.whole
          ∙ (looks_rest env (effect_numbers v.effects)).refused v ((turns_so_far_rest made env).bare (seen old) (bare_seen old a))
          ∙ sym (ap (λ (f : Flushed). f.refused) e),
    )

pub end_done : (slacks : List ℕ) (old mid new : Scene) (first between last : Hosts → Type 0) (made : ℕ) → 100 ≤ made → Agrees old.asked old.world →
    Runs slacks old mid first between (after_turns made) → IsSoFar slacks old first made →
    Runs slacks mid new between last (λ env w. (last_look env (effect_numbers w.effects) w).world) → Runs slacks old new first last (λ env w. (flush env w).world)
end_done slacks old mid new first between last made l a p so q =
    runs_as slacks old new first last (λ env w. (last_look env (effect_numbers (after_turns made env w).effects) (after_turns made env w)).world) (λ env w. (flush env w).world)
    (λ hosts all sound. sym (ap (λ (f : Flushed). f.world) (end_here slacks old first made l so hosts all sound)))
    (runs_then slacks old mid new first between last (after_turns made) (λ env w. (last_look env (effect_numbers w.effects) w).world) a (turns_so_far_rest made) last_rests p q)
