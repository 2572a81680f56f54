-- The cells of a batch, one after the other.
use Rattle.std.proofs.Common.{◌≡◌, ℕ, zero, suc, ◌+◌, ◌-◌, ◌<◌, ◌≤◌, ◌==◌, ◌||◌, Bool, true, false, cond, List, [], ◌∷◌, ◌++◌, length, take, Option, Some, None, refl, sym, ap, ◌∙◌, append_assoc}
use Rattle.std.specs.Prelude.{is_some, nat_eq, slice_get}
use Rattle.std.specs.List.{filter}
use Rattle.std.specs.Map.{keys_of, lookup}
use Rattle.std.proofs.lemmas.Bool.{eq-eqb}
use Rattle.std.proofs.lemmas.List.{take_all, take_more}
use Rattle.std.proofs.lemmas.Option.{get_or_from_slice_get}
use Rattle.sig_base.specs.declared.value.Value.{Value}
use Rattle.signal_model.specs.Signals.{Signals, is_in, standing}
use Rattle.signal_model.proofs.Shared.{or_left, or_right}
use Rattle.effect_model.specs.Batches.{Batch, is_unlike, net_of}
use Rattle.sig_state.specs.Batches.{Collected, with_joined}

-- a cell is found exactly where it is there
pub found_there : (n : ℕ) (b : Batch) → is_some (lookup (nat_eq n) b) ≡ is_in n (keys_of b)
found_there n [] = refl
found_there n (p ∷ b) = go (n == p.0) (found_there n b)
  where
    go : (x : Bool) → is_some (lookup (nat_eq n) b) ≡ is_in n (keys_of b) → is_some (cond x (Some p.1) (lookup (nat_eq n) b)) ≡ (x || is_in n (keys_of b))
    go true same = refl
    go false same = same

-- one that isn't there isn't found
pub unfound : (n : ℕ) (b : Batch) → is_in n (keys_of b) ≡ false → lookup (nat_eq n) b ≡ None
unfound n b off = go (lookup (nat_eq n) b) (found_there n b ∙ off)
  where
    go : (o : Option Value) → is_some o ≡ false → o ≡ None
    go None e = refl
    go (Some v) e = cc

-- one that isn't there joins as the last, in place of which there is room for one less
pub joined_new : (n : ℕ) (v : Value) (after before : Batch) (spare : ℕ) → is_in n (keys_of before) ≡ false → after ≡ before ++ (n, v) ∷ [] →
    (let c : Collected = record { changed = after; spare = spare - 1 } in c) ≡ with_joined n v (record { changed = before; spare = spare })
joined_new n v after before spare off e =
    ap (λ (b : Batch). let c : Collected = record { changed = b; spare = spare - 1 } in c) e
    ∙ sym (ap (λ x. let c : Collected = record { changed = cond x before (before ++ (n, v) ∷ []); spare = cond x spare (spare - 1) } in c) off)

-- the one at a place is there
pub there_at : (b : Batch) (place n : ℕ) (v : Value) → slice_get b place ≡ Some (n, v) → is_in n (keys_of b) ≡ true
there_at [] place n v e = cc
there_at (p ∷ b) zero n v e =
    let one : p ≡ (n, v) = cc in
    or_left (n == p.0) (is_in n (keys_of b)) (eq-eqb n p.0 (sym (ap (λ (q : ℕ × Value). q.0) one)))
there_at (p ∷ b) (suc place) n v e = or_right (n == p.0) (is_in n (keys_of b)) (there_at b place n v e)

-- what is told of some cells and then of others
net_append : (slacks : List ℕ) (w : Signals) (a b : Batch) → net_of slacks w (a ++ b) ≡ net_of slacks w a ++ net_of slacks w b
net_append slacks w [] b = refl
net_append slacks w (p ∷ a) b = go (is_unlike slacks p.1 (standing w p.0)) (net_append slacks w a b)
  where
    test : ℕ × Value → Bool
    test q = is_unlike slacks q.1 (standing w q.0)

    go : (x : Bool) → keys_of (filter test (a ++ b)) ≡ keys_of (filter test a) ++ keys_of (filter test b) →
        keys_of (cond x (p ∷ filter test (a ++ b)) (filter test (a ++ b))) ≡ keys_of (cond x (p ∷ filter test a) (filter test a)) ++ keys_of (filter test b)
    go true same = ap (λ (ns : List ℕ). p.0 ∷ ns) same
    go false same = same

-- what is told of those up to a place and of the one there
pub net_step : (slacks : List ℕ) (w : Signals) (b : Batch) (first old new : List ℕ) (place n : ℕ) (v : Value) → place < length b → slice_get b place ≡ Some (n, v) →
    old ≡ first ++ net_of slacks w (take place b) → new ≡ old ++ net_of slacks w ((n, v) ∷ []) → new ≡ first ++ net_of slacks w (take (place + 1) b)
net_step slacks w b first old new place n v l e so more =
    more ∙ ap (λ (ns : List ℕ). ns ++ net_of slacks w ((n, v) ∷ [])) so
    ∙ append_assoc first (net_of slacks w (take place b)) (net_of slacks w ((n, v) ∷ []))
    ∙ ap (λ (ns : List ℕ). first ++ ns) (sym (ap (net_of slacks w)
    (take_more b place (n, v) l ∙ ap (λ (p : ℕ × Value). take place b ++ p ∷ []) (get_or_from_slice_get b place (n, v) (n, v) e))
    ∙ net_append slacks w (take place b) ((n, v) ∷ [])))

-- those up to the end are all
pub net_all : (slacks : List ℕ) (w : Signals) (b : Batch) (first new : List ℕ) (place : ℕ) → length b ≤ place → new ≡ first ++ net_of slacks w (take place b) →
    new ≡ first ++ net_of slacks w b
net_all slacks w b first new place l so = so ∙ ap (λ (x : Batch). first ++ net_of slacks w x) (take_all place b l)
