-- Places of host formulas: which are there, and which are free; and how many of each thing there are.
use Rattle.std.proofs.Common.{◌≡◌, ◌≤◌, ◌<◌, ℕ, zero, suc, arith, Bool, true, false, cond, List, [], ◌∷◌, length, map, Option, Some, None, refl, sym, ap, subst, ◌∙◌}
use Rattle.std.specs.Prelude.{is_some, max, slice_get}
use Rattle.std.specs.List.{filter}
use Rattle.std.proofs.lemmas.Bool.{lt-ltb}
use Rattle.std.proofs.lemmas.List.{length-map}
use Rattle.std.proofs.lemmas.List.Sums.{count_by-le-length, length-filter}
use Rattle.sig_effect.specs.Stores.{AreNew}
use Rattle.effect_model.specs.Worlds as told
use Rattle.effect_model.specs.Worlds.{HostState, unused, used, dropped}
use Rattle.effect_model.specs.Acts.{is_free}
use Rattle.effect_tables.specs.declared.effect.Effect.{Effect}
use Rattle.effect_tables.specs.Placed.{effect_of}
use Rattle.sig_host.specs.Hosts.{HostPlace, most_asked, unasked_place}
use Rattle.sig_effect.specs.Wholes.{host_states}
use Rattle.live_entries.specs.declared.refusal.LimitWord.{LimitWord}
use Rattle.live_entries.specs.declared.refusal.Refusal.TheVariants as refusal
use Rattle.live_model.specs.Machine.{one_too_many, taken_refusal}

-- a place past the last is none
past : (uses : ℕ → Bool) (from : ℕ) (ps : List HostPlace) (p : ℕ) → length ps ≤ p → slice_get (host_states uses from ps) p ≡ None
past uses from [] p le = refl
past uses from (x ∷ xs) zero le = absurd (omega (arith, le))
past uses from (x ∷ xs) (suc p) le = past uses (suc from) xs p (omega (arith, le))

-- one before is one
within : (uses : ℕ → Bool) (from : ℕ) (ps : List HostPlace) (p : ℕ) → p < length ps → is_some (slice_get (host_states uses from ps) p) ≡ true
within uses from [] p lt = absurd (omega (arith, lt))
within uses from (x ∷ xs) zero lt = refl
within uses from (x ∷ xs) (suc p) lt = within uses (suc from) xs p (omega (arith, lt))

-- one that isn't there is refused for that
pub place_past : (uses : ℕ → Bool) (ps : List HostPlace) (p count : ℕ) → count ≡ length ps → count ≤ p →
    Some (refusal.HostPlace p) ≡ taken_refusal p (slice_get (host_states uses 0 ps) p)
place_past uses ps p count e le = sym (ap (taken_refusal p) (past uses 0 ps p (omega (arith, e, le))))

-- whether one that is there is refused
by_state : (p : ℕ) (o : Option HostState) → is_some o ≡ true → cond (is_free o) None (Some (refusal.HostTaken p)) ≡ taken_refusal p o
by_state p None e = absurd cc
by_state p (Some unused) e = refl
by_state p (Some (used n)) e = refl
by_state p (Some (dropped n)) e = refl

pub place_within : (uses : ℕ → Bool) (ps : List HostPlace) (p : ℕ) (free : Bool) → p < length ps → free ≡ is_free (slice_get (host_states uses 0 ps) p) →
    cond free None (Some (refusal.HostTaken p)) ≡ taken_refusal p (slice_get (host_states uses 0 ps) p)
place_within uses ps p free lt e =
    ap (λ (b : Bool). cond b None (Some (refusal.HostTaken p))) e ∙ by_state p (slice_get (host_states uses 0 ps) p) (within uses 0 ps p lt)

-- one that isn't free is refused
pub place_taken : (uses : ℕ → Bool) (ps : List HostPlace) (p : ℕ) (free : Bool) → p < length ps → free ≡ is_free (slice_get (host_states uses 0 ps) p) → free ≡ false →
    Some (refusal.HostTaken p) ≡ taken_refusal p (slice_get (host_states uses 0 ps) p)
place_taken uses ps p free lt e no_more =
    sym (ap (λ (b : Bool). cond b None (Some (refusal.HostTaken p))) no_more) ∙ place_within uses ps p free lt e

-- ---- host formulas that are new

-- each place has a formula that was never asked
pub are_new : {A : Type 0} (xs : List A) (asked : List HostPlace) → asked ≡ map (λ _. unasked_place) xs → AreNew asked
are_new xs asked e = subst AreNew (sym e) (all xs)
  where
    all : {B : Type 0} (ys : List B) → AreNew (map (λ _. unasked_place) ys)
    all [] = tt
    all (y ∷ ys) = (refl, all ys)

-- there are as many places as formulas
pub count_new : {A : Type 0} (xs : List A) (asked : List HostPlace) → asked ≡ map (λ _. unasked_place) xs → length asked ≡ length xs
count_new xs asked e = ap length e ∙ length-map xs (λ _. unasked_place)

-- none was asked
pub most_new : {A : Type 0} (xs : List A) (asked : List HostPlace) → asked ≡ map (λ _. unasked_place) xs → most_asked asked ≡ 0
most_new xs asked e = ap most_asked e ∙ none xs
  where
    none : {B : Type 0} (ys : List B) → most_asked (map (λ _. unasked_place) ys) ≡ 0
    none [] = refl
    none (y ∷ ys) = ap (max 0) (none ys)

-- ---- how many there are

-- as many states as places
pub states_count : (uses : ℕ → Bool) (from : ℕ) (ps : List HostPlace) → length (host_states uses from ps) ≡ length ps
states_count uses from [] = refl
states_count uses from (p ∷ ps) = ap suc (states_count uses (suc from) ps)

-- where there is room there is no refusal
pub none_below : (most count : ℕ) (word : LimitWord) → count < most → one_too_many most count word ≡ None
none_below most count word lt = ap (λ (b : Bool). cond b None (Some (refusal.Limit word))) (lt-ltb count most lt)

-- of so many effects no more were made by a command
pub no_more_named : (P : told.Effect → Bool) (xs : List Effect) → length (filter P (map effect_of xs)) ≤ length xs
no_more_named P xs =
    let few = length-filter P (map effect_of xs) in
    let all = count_by-le-length P (map effect_of xs) in
    let same = length-map xs effect_of in
    omega (arith, few, all, same)
