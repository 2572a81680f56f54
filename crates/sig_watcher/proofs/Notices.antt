-- Who is told, one watcher after the other.
use Rattle.std.proofs.Common.{◌≡◌, ℕ, zero, suc, ◌+◌, ◌<◌, ◌&&◌, Bool, true, false, cond, List, [], ◌∷◌, ◌++◌, length, take, drop, map, refl, sym, ap, ◌∙◌, arith, append_assoc}
use Rattle.std.specs.Prelude.{slice_index_or}
use Rattle.std.specs.List.{filter, list_any}
use Rattle.signal_model.specs.Signals.{Signals}
use Rattle.signal_model.specs.Memos.{Memos}
use Rattle.signal_model.specs.Kept.{OnlyComputedsKeep}
use Rattle.signal_laws.proofs.Shared.{or_fst, or_snd}
use Rattle.sig_graph.specs.States.{Seen}
use Rattle.effect_model.specs.Worlds.{Watcher, watcher_numbers}
use Rattle.effect_model.specs.Acts.{frozen_by, is_notified_by_any, is_reached_by_any, notified_by_any, some_name, waiting_if}
use Rattle.sig_watcher.specs.declared.recipients.Told.{Told}
use Rattle.sig_watcher.specs.Numbers.{changed_at, AreNumbered}
use Rattle.sig_watcher.specs.Reach.{AreReaching, NoneFound, SomeFound}
use Rattle.sig_watcher.specs.Tables.{waiting}
use Rattle.sig_watcher.specs.Notices.{passes_at, told_at, told_entry, waiting_after}
use Rattle.sig_watcher.proofs.Places.{length_changed, map_step, rises_changed}
use Rattle.sig_watcher.proofs.Closure.{none_reached, some_reached}

-- ---- the watcher at a place

-- a test of it
pub passes_here : (test : Watcher → Bool) (p : ℕ) (xs : List Watcher) (x : Watcher) → p < length xs → x ≡ slice_index_or xs p x → passes_at test p xs ≡ test x
passes_here test p [] x l is = absurd (omega (arith, l))
passes_here test zero (y ∷ ys) x l is = ap test (sym is)
passes_here test (suc p) (y ∷ ys) x l is = let k : p < length ys = omega (arith, l) in passes_here test p ys x k is

-- what is told of it
pub told_here : (hit : Bool) (p : ℕ) (xs : List Watcher) (x : Watcher) → hit ≡ true → p < length xs → x ≡ slice_index_or xs p x → told_at hit p xs ≡ told_entry x ∷ []
told_here hit p [] x on l is = absurd (omega (arith, l))
told_here hit zero (y ∷ ys) x on l is = ap (λ b. cond b (told_entry y ∷ []) []) on ∙ ap (λ z. told_entry z ∷ []) (sym is)
told_here hit (suc p) (y ∷ ys) x on l is = let k : p < length ys = omega (arith, l) in told_here hit p ys x on k is

-- nothing is told of one that isn't notified
pub told_none : (hit : Bool) (p : ℕ) (xs : List Watcher) → hit ≡ false → told_at hit p xs ≡ []
told_none hit p [] off = refl
told_none hit zero (y ∷ ys) off = ap (λ b. cond b (told_entry y ∷ []) []) off
told_none hit (suc p) (y ∷ ys) off = told_none hit p ys off

-- and it stays
pub stays : (hit : Bool) (p : ℕ) (xs : List Watcher) → hit ≡ false → changed_at (waiting_after hit) p xs ≡ xs
stays hit p [] off = refl
stays hit zero (y ∷ ys) off = ap (λ b. waiting_after b y ∷ ys) off
stays hit (suc p) (y ∷ ys) off = ap (λ zs. y ∷ zs) (stays hit p ys off)

-- whether it is waiting or not, its number is the same
after_number : (hit : Bool) (x : Watcher) → (waiting_after hit x).number ≡ x.number
after_number true x = refl
after_number false x = refl

pub numbered_after : (hit : Bool) (p made : ℕ) (xs : List Watcher) → AreNumbered xs made → AreNumbered (changed_at (waiting_after hit) p xs) made
numbered_after hit p made xs h = record {
  rising = rises_changed 0 made p (waiting_after hit) xs (after_number hit) h.rising;
  room = let room = h.room in let len = length_changed p (waiting_after hit) xs in omega (arith, room, len);
}

-- ---- whether it is notified

-- some of its signals are found exactly where one of them is reached
pub found_is : (g : Seen) (ns : List ℕ) (seats : List ℕ) (names : List ℕ) (b : Bool) → (b ≡ true → SomeFound g ns seats names) → (b ≡ false → NoneFound g ns seats names) →
    OnlyComputedsKeep g.state.signals g.state.memos → AreReaching g ns seats → b ≡ some_name (is_reached_by_any g.state.signals g.state.memos ns) names
found_is g ns seats names true found clear only reaching = sym (some_reached g ns seats names only reaching (found refl))
found_is g ns seats names false found clear only reaching = sym (none_reached g ns seats names only reaching (clear refl))

-- ---- one after the other

-- what was told of before doesn't count for the next one
passes_same : (test : Watcher → Bool) (f : Watcher → Watcher) (all xs : List Watcher) (p : ℕ) → xs ≡ map f (take p all) ++ drop p all → passes_at test p xs ≡ passes_at test p all
passes_same test f all xs p is = ap (passes_at test p) is ∙ go p all
  where
    go : (k : ℕ) (ys : List Watcher) → passes_at test k (map f (take k ys) ++ drop k ys) ≡ passes_at test k ys
    go zero [] = refl
    go (suc k) [] = refl
    go zero (y ∷ ys) = refl
    go (suc k) (y ∷ ys) = go k ys

told_same : (hit : Bool) (f : Watcher → Watcher) (all xs : List Watcher) (p : ℕ) → xs ≡ map f (take p all) ++ drop p all → told_at hit p xs ≡ told_at hit p all
told_same hit f all xs p is = ap (told_at hit p) is ∙ go p all
  where
    go : (k : ℕ) (ys : List Watcher) → told_at hit k (map f (take k ys) ++ drop k ys) ≡ told_at hit k ys
    go zero [] = refl
    go (suc k) [] = refl
    go zero (y ∷ ys) = refl
    go (suc k) (y ∷ ys) = go k ys

-- who passes is waiting
waits : (test : Watcher → Bool) (hit : Bool) (p : ℕ) (xs : List Watcher) → hit ≡ passes_at test p xs → changed_at (waiting_after hit) p xs ≡ changed_at (waiting_if test) p xs
waits test hit p [] is = refl
waits test hit zero (x ∷ xs) is = ap (λ b. waiting_after b x ∷ xs) is
waits test hit (suc p) (x ∷ xs) is = ap (λ zs. x ∷ zs) (waits test hit p xs is)

pub waiting_step : (test : Watcher → Bool) (all xs : List Watcher) (p : ℕ) (hit : Bool) → p < length all → xs ≡ map (waiting_if test) (take p all) ++ drop p all → hit ≡ passes_at test p xs →
    changed_at (waiting_after hit) p xs ≡ map (waiting_if test) (take (p + 1) all) ++ drop (p + 1) all
waiting_step test all xs p hit l is b = waits test hit p xs b ∙ map_step (waiting_if test) all xs p l is

-- who passes is told of
told_more : (test : Watcher → Bool) (p : ℕ) (all : List Watcher) → p < length all →
    map told_entry (filter test (take p all)) ++ told_at (passes_at test p all) p all ≡ map told_entry (filter test (take (p + 1) all))
told_more test p [] l = absurd (omega (arith, l))
told_more test zero (x ∷ xs) l = go (test x)
  where
    go : (b : Bool) → cond b (told_entry x ∷ []) [] ≡ map told_entry (cond b (x ∷ []) [])
    go true = refl
    go false = refl
told_more test (suc p) (x ∷ xs) l =
    let k : p < length xs = omega (arith, l) in
    let s : suc p + 1 ≡ suc (p + 1) = omega arith in
    rw s (go (test x) (told_more test p xs k))
  where
    go : (b : Bool) → map told_entry (filter test (take p xs)) ++ told_at (passes_at test p xs) p xs ≡ map told_entry (filter test (take (p + 1) xs)) →
        map told_entry (cond b (x ∷ filter test (take p xs)) (filter test (take p xs))) ++ told_at (passes_at test p xs) p xs
        ≡ map told_entry (cond b (x ∷ filter test (take (p + 1) xs)) (filter test (take (p + 1) xs)))
    go true ih = ap (λ ts. told_entry x ∷ ts) ih
    go false ih = ih

pub told_step : (test : Watcher → Bool) (f : Watcher → Watcher) (all xs : List Watcher) (first old new : List Told) (p : ℕ) (hit : Bool) → p < length all →
    xs ≡ map f (take p all) ++ drop p all → hit ≡ passes_at test p xs → old ≡ first ++ map told_entry (filter test (take p all)) → new ≡ old ++ told_at hit p xs →
    new ≡ first ++ map told_entry (filter test (take (p + 1) all))
told_step test f all xs first old new p hit l is b so more =
    more ∙ ap (λ ts. ts ++ told_at hit p xs) so
    ∙ ap (λ ts. (first ++ map told_entry (filter test (take p all))) ++ ts) (told_same hit f all xs p is ∙ ap (λ c. told_at c p all) (b ∙ passes_same test f all xs p is))
    ∙ append_assoc first (map told_entry (filter test (take p all))) (told_at (passes_at test p all) p all)
    ∙ ap (λ ts. first ++ ts) (told_more test p all l)

-- ---- where nobody is watching

-- nobody is notified
pub quiet_none : (w : Signals) (k : Memos) (ns : List ℕ) (xs : List Watcher) → list_any (λ (x : Watcher). x.watching) xs ≡ false → notified_by_any w k ns xs ≡ []
quiet_none w k ns [] off = refl
quiet_none w k ns (x ∷ xs) off =
    ap (λ b. cond (b && some_name (is_reached_by_any w k ns) x.signals) (x ∷ notified_by_any w k ns xs) (notified_by_any w k ns xs)) (or_fst x.watching (list_any (λ (y : Watcher). y.watching) xs) off)
    ∙ quiet_none w k ns xs (or_snd x.watching (list_any (λ (y : Watcher). y.watching) xs) off)

-- and all stay
pub quiet_stay : (w : Signals) (k : Memos) (ns : List ℕ) (xs : List Watcher) → list_any (λ (x : Watcher). x.watching) xs ≡ false → map (waiting_if (is_notified_by_any w k ns)) xs ≡ xs
quiet_stay w k ns [] off = refl
quiet_stay w k ns (x ∷ xs) off =
    ap (λ b. cond (b && some_name (is_reached_by_any w k ns) x.signals) (waiting x) x ∷ map (waiting_if (is_notified_by_any w k ns)) xs) (or_fst x.watching (list_any (λ (y : Watcher). y.watching) xs) off)
    ∙ ap (λ ys. x ∷ ys) (quiet_stay w k ns xs (or_snd x.watching (list_any (λ (y : Watcher). y.watching) xs) off))

-- ---- what the entries say

-- they name the watchers that are told of
pub entries_told : (xs : List Watcher) → map (λ (t : Told). t.watcher) (map told_entry xs) ≡ watcher_numbers xs
entries_told [] = refl
entries_told (x ∷ xs) = ap (λ ns. x.number ∷ ns) (entries_told xs)

-- and those of refused tries name the frozen ones
pub entries_frozen : (xs : List Watcher) → map (λ (t : Told). t.watcher) (filter (λ (t : Told). t.refused) (map told_entry xs)) ≡ frozen_by xs
entries_frozen [] = refl
entries_frozen (x ∷ xs) = go x.tries (entries_frozen xs)
  where
    go : (b : Bool) → map (λ (t : Told). t.watcher) (filter (λ (t : Told). t.refused) (map told_entry xs)) ≡ frozen_by xs →
        map (λ (t : Told). t.watcher) (cond b (told_entry x ∷ filter (λ (t : Told). t.refused) (map told_entry xs)) (filter (λ (t : Told). t.refused) (map told_entry xs)))
        ≡ map (λ (y : Watcher). y.number) (cond b (x ∷ filter (λ (y : Watcher). y.tries) xs) (filter (λ (y : Watcher). y.tries) xs))
    go true ih = ap (λ ns. x.number ∷ ns) ih
    go false ih = ih
