-- Handlers that wait for the same, one after the other.
use Rattle.std.proofs.Common.{◌≡◌, ℕ, suc, ◌+◌, Bool, true, false, cond, List, [], ◌∷◌, ◌++◌, append-nil, append_assoc, map, refl, sym, ap, ◌∙◌, arith}
use Rattle.event_model.specs.declared.awaited.Awaited.{Awaited}
use Rattle.event_model.specs.declared.fired.Fired.{Fired}
use Rattle.event_model.specs.Handlers.{same_awaited, waiting_from}

-- the handler of a place runs at a node
abbrev run_at : ℕ → ℕ → Fired
run_at n j = record { node = n; handler = j }

-- those that run at a node, of which the first has this place
abbrev pub fired_from : ℕ → Awaited → List Awaited → ℕ → List Fired
fired_from i what hs n = map (run_at n) (waiting_from i what hs)

-- the first, where it waits
one_fired : (b : Bool) (i n : ℕ) (js : List ℕ) → map (run_at n) (cond b (i ∷ []) [] ++ js) ≡ cond b (run_at n i ∷ []) [] ++ map (run_at n) js
one_fired true i n js = refl
one_fired false i n js = refl

-- those that are left, behind those of before
pub one_waiting : (hs rest all : List Awaited) (h : Awaited) (runs : Bool) (i n : ℕ) (what : Awaited) (old new start : List Fired) → hs ≡ h ∷ rest →
    runs ≡ same_awaited h what → new ≡ old ++ cond runs (run_at n i ∷ []) [] → old ++ fired_from i what hs n ≡ start ++ fired_from 0 what all n →
    new ++ fired_from (i + 1) what rest n ≡ start ++ fired_from 0 what all n
one_waiting hs rest all h runs i n what old new start cut tested put inv =
    let first : List Fired = cond (same_awaited h what) (run_at n i ∷ []) [] in
    let next : i + 1 ≡ suc i = omega arith in
    ap (λ xs. xs ++ fired_from (i + 1) what rest n) put
    ∙ ((λ k. (old ++ cond (tested k) (run_at n i ∷ []) []) ++ fired_from (next k) what rest n)
    ∙ (append_assoc old first (fired_from (suc i) what rest n)
    ∙ (ap (λ fs. old ++ fs) (sym (one_fired (same_awaited h what) i n (waiting_from (suc i) what rest)))
    ∙ (ap (λ xs. old ++ fired_from i what xs n) (sym cut) ∙ inv))))

-- none is left
pub none_waiting : (hs all : List Awaited) (i n : ℕ) (what : Awaited) (old start : List Fired) → hs ≡ [] →
    old ++ fired_from i what hs n ≡ start ++ fired_from 0 what all n → old ≡ start ++ fired_from 0 what all n
none_waiting hs all i n what old start none inv = sym (append-nil old) ∙ (ap (λ xs. old ++ fired_from i what xs n) (sym none) ∙ inv)
