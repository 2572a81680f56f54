-- After a flush that wasn't refused, all that a look settles is settled, so another flush does nothing.
use Rattle.std.proofs.Common.{◌≡◌, ℕ, zero, suc, ◌+◌, Bool, true, false, List, [], ◌∷◌, Option, Some, None, refl, sym, ap, ◌∙◌, subst, arith}
use Rattle.std.proofs.lemmas.List.{append-nil}
use Rattle.signal_model.specs.Signals.{Signals}
use Rattle.signal_model.specs.Values.{value_of}
use Rattle.signal_model.specs.Memos.{Memos}
use Rattle.signal_model.specs.Settling.{Settled}
use Rattle.signal_model.specs.Kept.{AreKept}
use Rattle.signal_laws.proofs.Shared.{settle_law, IsSettled, settles, stays_settled, settled_same}
use Rattle.effect_model.specs.Worlds.{Environment, HostState, unused, used, dropped, Effect, World, effect_at, effect_numbers, asked_by, with_settled}
use Rattle.effect_model.specs.Worlds.{settle}
use Rattle.effect_model.specs.Runs.{is_effect_due, looked_names, value_now, look, Turned, after_look, at_place, turn_over, turn, after_last}
use Rattle.effect_model.specs.Runs.{last_case, last_look, after_turn, flush_within, flush}
use Rattle.effect_laws.specs.QuietFlush.{QuietFlushLaw}
use Rattle.effect_laws.proofs.Changes.{core_of, turn_keeps_core}
use Rattle.effect_laws.proofs.KeptWorlds.{Kept, changes_keep, of_world}
use Rattle.effect_laws.proofs.Flushes.{is_due_on, NoneOf, Rests, Ends, last_ends, ran_stays, turn_rests}

-- what a look at an effect settles is settled
abbrev SettledAt : Environment → Signals → Memos → Option Effect → Type 0
SettledAt env s k None = Unit {0}
SettledAt env s k (Some x) = IsSettled env.hosts s k (looked_names (λ m. value_of env.hosts s m []) x.kept)

-- so it is for each of these numbers
abbrev AllSettled : Environment → Signals → List Effect → Memos → List ℕ → Type 0
AllSettled env s xs k [] = Unit {0}
AllSettled env s xs k (e ∷ es) = SettledAt env s k (effect_at e xs) × AllSettled env s xs k es

-- and what was settled before is settled after
abbrev Stay : Environment → Signals → Memos → Memos → Type 0
Stay env s k k' = (names : List ℕ) → IsSettled env.hosts s k names → IsSettled env.hosts s k' names

-- ---- the turn that runs nothing, and the last look

turn_settles : (env : Environment) (es : List ℕ) (t : Turned) → AreKept env.hosts t.world.signals t.world.memos → (turn_over env es t).ran ≡ false →
    AllSettled env t.world.signals t.world.effects (turn_over env es t).world.memos es
    × Stay env t.world.signals t.world.memos (turn_over env es t).world.memos
turn_settles env [] t kept h = (tt, λ names i. i)
turn_settles env (e ∷ es) t kept h = found (effect_at e t.world.effects) refl h (λ u k j. turn_settles env es u k j)
  where
    found : (x : Option Effect) → effect_at e t.world.effects ≡ x → (turn_over env es (at_place env x t)).ran ≡ false →
        ((u : Turned) → AreKept env.hosts u.world.signals u.world.memos → (turn_over env es u).ran ≡ false →
        AllSettled env u.world.signals u.world.effects (turn_over env es u).world.memos es
        × Stay env u.world.signals u.world.memos (turn_over env es u).world.memos) →
        AllSettled env t.world.signals t.world.effects (turn_over env es (at_place env x t)).world.memos (e ∷ es)
        × Stay env t.world.signals t.world.memos (turn_over env es (at_place env x t)).world.memos
    found None at k rest =
        let r : AllSettled env t.world.signals t.world.effects (turn_over env es t).world.memos es
        × Stay env t.world.signals t.world.memos (turn_over env es t).world.memos = rest t kept k in
        ((subst (SettledAt env t.world.signals (turn_over env es t).world.memos) (sym at) tt, r.0), r.1)
    found (Some x) at k rest = go (is_effect_due (value_now env t.world) x.kept) k
      where
        go : (b : Bool) → (turn_over env es (after_look env x b (look env x t.world) t.ran)).ran ≡ false →
            AllSettled env t.world.signals t.world.effects (turn_over env es (after_look env x b (look env x t.world) t.ran)).world.memos (e ∷ es)
            × Stay env t.world.signals t.world.memos (turn_over env es (after_look env x b (look env x t.world) t.ran)).world.memos
        go true j = absurd (let ran : (turn_over env es (after_look env x true (look env x t.world) t.ran)).ran ≡ true
            = ran_stays env es (after_look env x true (look env x t.world) t.ran) refl in cc)
        go false j =
            let names : List ℕ = looked_names (value_now env t.world) x.kept in
            let u : Turned = record { world = look env x t.world; ran = t.ran } in
            let r : AllSettled env t.world.signals t.world.effects (turn_over env es u).world.memos es
            × Stay env t.world.signals u.world.memos (turn_over env es u).world.memos
            = rest u (settle_law env.hosts t.world.signals t.world.memos names kept) j in
            let mine : IsSettled env.hosts t.world.signals (turn_over env es u).world.memos names
            = r.1 names (settles env.hosts t.world.signals t.world.memos names kept) in (
              (subst (SettledAt env t.world.signals (turn_over env es u).world.memos) (sym at) mine, r.0),
              λ others i. r.1 others (stays_settled env.hosts t.world.signals t.world.memos others names i),
            )

last_settles : (env : Environment) (es : List ℕ) (w : World) → AreKept env.hosts w.signals w.memos → (last_look env es w).refused ≡ false →
    AllSettled env w.signals w.effects (last_look env es w).world.memos es × Stay env w.signals w.memos (last_look env es w).world.memos
last_settles env [] w kept h = (tt, λ names i. i)
last_settles env (e ∷ es) w kept h = found (effect_at e w.effects) refl h (λ v k j. last_settles env es v k j)
  where
    found : (x : Option Effect) → effect_at e w.effects ≡ x → (last_case env x w (last_look env es)).refused ≡ false →
        ((v : World) → AreKept env.hosts v.signals v.memos → (last_look env es v).refused ≡ false →
        AllSettled env v.signals v.effects (last_look env es v).world.memos es × Stay env v.signals v.memos (last_look env es v).world.memos) →
        AllSettled env w.signals w.effects (last_case env x w (last_look env es)).world.memos (e ∷ es)
        × Stay env w.signals w.memos (last_case env x w (last_look env es)).world.memos
    found None at k rest =
        let r : AllSettled env w.signals w.effects (last_look env es w).world.memos es × Stay env w.signals w.memos (last_look env es w).world.memos
        = rest w kept k in
        ((subst (SettledAt env w.signals (last_look env es w).world.memos) (sym at) tt, r.0), r.1)
    found (Some x) at k rest = go (is_effect_due (value_now env w) x.kept) k
      where
        go : (b : Bool) → (after_last b (look env x w) (last_look env es)).refused ≡ false →
            AllSettled env w.signals w.effects (after_last b (look env x w) (last_look env es)).world.memos (e ∷ es)
            × Stay env w.signals w.memos (after_last b (look env x w) (last_look env es)).world.memos
        go true j = absurd (cc)
        go false j =
            let names : List ℕ = looked_names (value_now env w) x.kept in
            let v : World = look env x w in
            let r : AllSettled env w.signals w.effects (last_look env es v).world.memos es
            × Stay env w.signals v.memos (last_look env es v).world.memos
            = rest v (settle_law env.hosts w.signals w.memos names kept) j in
            let mine : IsSettled env.hosts w.signals (last_look env es v).world.memos names
            = r.1 names (settles env.hosts w.signals w.memos names kept) in (
              (subst (SettledAt env w.signals (last_look env es v).world.memos) (sym at) mine, r.0),
              λ others i. r.1 others (stays_settled env.hosts w.signals w.memos others names i),
            )

-- ---- a flush that isn't refused

-- no effect is due, and what looks settle is settled
abbrev DoneOn : Environment → Memos → Signals → List Effect → Type 0
DoneOn env k s xs = NoneOf env s xs (effect_numbers xs) × AllSettled env s xs k (effect_numbers xs)

done_on : (env : Environment) (w v : World) → Rests env w.signals w.effects (effect_numbers w.effects) v →
    AllSettled env w.signals w.effects v.memos (effect_numbers w.effects) → DoneOn env v.memos v.signals v.effects
done_on env w v r a =
    subst (λ s. DoneOn env v.memos s v.effects) (sym r.0) (subst (λ xs. DoneOn env v.memos w.signals xs) (sym r.1) (r.2, a))

flush_done : (most : ℕ) (env : Environment) (w : World) → Kept env (core_of w) → (flush_within most env w).refused ≡ false →
    DoneOn env (flush_within most env w).world.memos (flush_within most env w).world.signals (flush_within most env w).world.effects
flush_done zero env w k h =
    let es : List ℕ = effect_numbers w.effects in
    let l : Ends env w es (last_look env es w) = last_ends env es w in
    done_on env w (last_look env es w).world (l.rests h) (last_settles env es w k.0 h).0
flush_done (suc more) env w k h =
    go (turn env w).ran refl h (λ j. flush_done more env (turn env w).world (turn_keeps_core env (Kept env) (changes_keep env).acts w k) j)
  where
    go : (b : Bool) → (turn env w).ran ≡ b → (after_turn b (turn env w).world (flush_within more env)).refused ≡ false →
        ((flush_within more env (turn env w).world).refused ≡ false →
        DoneOn env (flush_within more env (turn env w).world).world.memos (flush_within more env (turn env w).world).world.signals
        (flush_within more env (turn env w).world).world.effects) →
        DoneOn env (after_turn b (turn env w).world (flush_within more env)).world.memos
        (after_turn b (turn env w).world (flush_within more env)).world.signals
        (after_turn b (turn env w).world (flush_within more env)).world.effects
    go true e j rest = rest j
    go false e j rest =
        let es : List ℕ = effect_numbers w.effects in
        let t : Turned = record { world = w; ran = false } in
        done_on env w (turn env w).world (turn_rests env es t e) (turn_settles env es t k.0 e).0

-- ---- another flush

no_asks : (i : ℕ) (hs : List HostState) → asked_by [] i hs ≡ hs
no_asks i [] = refl
no_asks i (unused ∷ hs) = ap (λ x. unused ∷ x) (no_asks (suc i) hs)
no_asks i (used a ∷ hs) = (λ j. used (same j) ∷ no_asks (suc i) hs j)
  where
    same : a + 0 ≡ a
    same = omega arith
no_asks i (dropped a ∷ hs) = ap (λ x. dropped a ∷ x) (no_asks (suc i) hs)

-- names that are settled change nothing
settle_same : (env : Environment) (names : List ℕ) (w : World) → IsSettled env.hosts w.signals w.memos names → settle env names w ≡ w
settle_same env names w i =
    ap (λ (s : Settled). with_settled s w) (settled_same env.hosts w.signals w.memos names i)
    ∙ (λ j. record w { host_states = no_asks 0 w.host_states j; told = append-nil w.told j })

turn_same : (env : Environment) (es : List ℕ) (w : World) → NoneOf env w.signals w.effects es → AllSettled env w.signals w.effects w.memos es →
    turn_over env es (record { world = w; ran = false }) ≡ record { world = w; ran = false }
turn_same env [] w n a = refl
turn_same env (e ∷ es) w n a =
    ap (turn_over env es) (found (effect_at e w.effects) n.0 a.0) ∙ turn_same env es w n.1 a.1
  where
    found : (x : Option Effect) → is_due_on env w.signals x ≡ false → SettledAt env w.signals w.memos x →
        at_place env x (record { world = w; ran = false }) ≡ record { world = w; ran = false }
    found None d i = refl
    found (Some x) d i =
        ap (λ b. after_look env x b (look env x w) false) d
        ∙ ap (λ v. let t : Turned = record { world = v; ran = false } in t) (settle_same env (looked_names (value_now env w) x.kept) w i)

flush_same : (more : ℕ) (env : Environment) (w : World) → DoneOn env w.memos w.signals w.effects →
    flush_within (suc more) env w ≡ record { world = w; turns = 0; refused = false }
flush_same more env w d =
    ap (λ (t : Turned). after_turn t.ran t.world (flush_within more env)) (turn_same env (effect_numbers w.effects) w d.0 d.1)

pub quiet_flush_law : QuietFlushLaw
quiet_flush_law env w k h = flush_same 99 env (flush env w).world (flush_done 100 env w (of_world env w k) h)
