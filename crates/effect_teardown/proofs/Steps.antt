-- The steps of the store, by the owners' own numbers.
use Rattle.std.proofs.Common.{Option, ◌≡◌, ℕ, ◌||◌, ◌++◌, Bool, true, false, cond, List, [], ◌∷◌, map, refl, ap, ◌∙◌, inl, inr, ◌⊎◌}
use Rattle.std.specs.List.{AllByRecursion}
use Rattle.std.proofs.lemmas.Bool.{eq-eqb}
use Rattle.signal_model.proofs.Shared.{either, or_left, or_right}
use Rattle.effect_model.specs.Owners.{Thing, the_signal, the_owner, the_effect, the_page, the_watcher, Owned, nothing, thing, cleanup, Undoing, cleans, ends, same_thing, teardown_of, under, with_earlier}
use Rattle.sig_owner.specs.declared.thing.Thing.TheVariants as a
use Rattle.sig_owner.specs.declared.thing.Undoing.{Undoing as AnUndoing}
use Rattle.sig_owner.specs.declared.thing.Undoing.TheVariants as undoing
use Rattle.sig_owner.specs.Renames.{renamed_thing, renamed_undoing, renamed_undoings}
use Rattle.sig_owner.specs.Tables.{Row, cleanup_of, live_at, thing_at}
use Rattle.sig_owner.specs.Trees.{has_thing}
use Rattle.sig_owner.specs.Walks.{is_ended, undoing_of, undoings_of}
use Rattle.sig_owner.proofs.Shared.{renamed_same}
use Rattle.effect_tables.specs.declared.thing.Thing.{Thing as AThing}
use Rattle.effect_tables.specs.Consistency.{AreLiving, AreNumbered, IsOwner}
use Rattle.effect_tables.specs.Owners.{is_row, number_in}
use Rattle.effect_teardown.specs.Trees.{IsEffect, IsFormed, OnEffects}
use Rattle.effect_teardown.specs.Steps.{retold}

-- a cleanup is that of an effect, and an owner that ends is one of these and lives
abbrev pub IsKnownStep : List (Option ℕ) → List Row → Undoing → Type 0
IsKnownStep owners rows (cleans t c) = IsEffect t
IsKnownStep owners rows (ends (the_owner n)) = (is_row n owners ≡ true) × (live_at rows n ≡ true)
IsKnownStep owners rows (ends _) = Unit {0}

-- of each in one list and in another
pub all_both : {A : Type 0} (P : A → Type 0) (xs ys : List A) → AllByRecursion P xs → AllByRecursion P ys → AllByRecursion P (xs ++ ys)
all_both P [] ys p q = q
all_both P (x ∷ xs) ys p q = (p.0, all_both P xs ys p.1 q)

-- ---- what ends stands somewhere

has_split : (s : Thing) (x y : Owned) → has_thing s (with_earlier x y) ≡ true → (has_thing s x ≡ true) ⊎ (has_thing s y ≡ true)
has_split s nothing y h = inr h
has_split s (cleanup c rest) y h = has_split s rest y h
has_split s (thing u made rest) y h = elim (either (same_thing s u) (has_thing s made || has_thing s (with_earlier rest y)) h) [
  | inl q ↦ inl (or_left (same_thing s u) (has_thing s made || has_thing s rest) q)
  | inr q ↦ elim (either (has_thing s made) (has_thing s (with_earlier rest y)) q) [
    | inl r ↦ inl (or_right (same_thing s u) (has_thing s made || has_thing s rest) (or_left (has_thing s made) (has_thing s rest) r))
    | inr r ↦ elim (has_split s rest y r) [
      | inl v ↦ inl (or_right (same_thing s u) (has_thing s made || has_thing s rest) (or_right (has_thing s made) (has_thing s rest) v))
      | inr v ↦ inr v
    ]
  ]
]

-- what stands under a thing stands somewhere
pub has_under : (s t : Thing) (x : Owned) → has_thing s (under t x) ≡ true → has_thing s x ≡ true
has_under s t nothing h = h
has_under s t (cleanup c rest) h = has_under s t rest h
has_under s t (thing u made rest) h = elim (has_split s (cond (same_thing t u) made (under t made)) (under t rest) h) [
  | inl q ↦ or_right (same_thing s u) (has_thing s made || has_thing s rest) (or_left (has_thing s made) (has_thing s rest) (go (same_thing t u) (has_under s t made) q))
  | inr q ↦ or_right (same_thing s u) (has_thing s made || has_thing s rest) (or_right (has_thing s made) (has_thing s rest) (has_under s t rest q))
]
  where
    go : (b : Bool) → (has_thing s (under t made) ≡ true → has_thing s made ≡ true) → has_thing s (cond b made (under t made)) ≡ true → has_thing s made ≡ true
    go true inner q = q
    go false inner q = inner q

end_known : (owners : List (Option ℕ)) (rows : List Row) (t : Thing) → ((n : ℕ) → same_thing (the_owner n) t ≡ true → (is_row n owners ≡ true) × (live_at rows n ≡ true)) → IsKnownStep owners rows (ends t)
end_known owners rows (the_owner n) k = k n (eq-eqb n n refl)
end_known owners rows (the_signal n) k = tt
end_known owners rows (the_effect n) k = tt
end_known owners rows (the_page n) k = tt
end_known owners rows (the_watcher n) k = tt

pub known_teardown : (owners : List (Option ℕ)) (rows : List Row) (h : Thing) (x : Owned) → IsFormed h x → ((n : ℕ) → has_thing (the_owner n) x ≡ true → (is_row n owners ≡ true) × (live_at rows n ≡ true)) → AllByRecursion (IsKnownStep owners rows) (teardown_of h x)
known_teardown owners rows h nothing p k = tt
known_teardown owners rows h (cleanup c rest) p k = (p.0, known_teardown owners rows h rest p.1 k)
known_teardown owners rows h (thing t made rest) p k =
    all_both (IsKnownStep owners rows) (teardown_of t made) (ends t ∷ teardown_of h rest)
    (known_teardown owners rows t made p.1 (λ n e. k n (or_right (same_thing (the_owner n) t) (has_thing (the_owner n) made || has_thing (the_owner n) rest) (or_left (has_thing (the_owner n) made) (has_thing (the_owner n) rest) e)))) (
      end_known owners rows t (λ n e. k n (or_left (same_thing (the_owner n) t) (has_thing (the_owner n) made || has_thing (the_owner n) rest) e)),
      known_teardown owners rows h rest p.2 (λ n e. k n (or_right (same_thing (the_owner n) t) (has_thing (the_owner n) made || has_thing (the_owner n) rest) (or_right (has_thing (the_owner n) made) (has_thing (the_owner n) rest) e))),
    )

pub known_more : (owners : List (Option ℕ)) (rows : List Row) (us : List Undoing) (t : Thing) → AllByRecursion (IsKnownStep owners rows) us → IsKnownStep owners rows (ends t) → AllByRecursion (IsKnownStep owners rows) (us ++ ends t ∷ [])
known_more owners rows us t p q = all_both (IsKnownStep owners rows) us (ends t ∷ []) p (q, tt)

-- the cleanups under a thing are those of effects
pub on_effects : (h : Thing) (x : Owned) → IsFormed h x → AllByRecursion OnEffects (teardown_of h x)
on_effects h nothing p = tt
on_effects h (cleanup c rest) p = (p.0, on_effects h rest p.1)
on_effects h (thing t made rest) p = all_both OnEffects (teardown_of t made) (ends t ∷ teardown_of h rest) (on_effects t made p.1) (tt, on_effects h rest p.2)

-- ---- steps by the things of the rows

effect_lives : (rows : List Row) (n : ℕ) → AreLiving rows → (t : Thing) → thing_at rows n ≡ t → IsEffect t → live_at rows n ≡ true
effect_lives rows n all (the_effect e) is h = all n e is
effect_lives rows n all (the_owner m) is h = absurd h
effect_lives rows n all (the_signal m) is h = absurd h
effect_lives rows n all (the_page m) is h = absurd h
effect_lives rows n all (the_watcher m) is h = absurd h

retold_one : (owners : List (Option ℕ)) (ts : ℕ → Option AThing) (rows : List Row) → AreNumbered owners ts rows → ((k : ℕ) → is_row k owners ≡ true → IsOwner rows k) → (u : AnUndoing) →
    IsKnownStep owners rows (undoing_of (thing_at rows) u) → retold ts u ≡ renamed_undoing (number_in owners) (undoing_of (thing_at rows) u)
retold_one owners ts rows x own (undoing.Cleanup r c) h = ap (λ t. cleans t (cleanup_of c)) (x.named r (effect_lives rows r x.effects (thing_at rows r) refl h))
retold_one owners ts rows x own (undoing.Gone (a.Owner n)) h = ap ends (x.named n h.1 ∙ ap (renamed_thing (number_in owners)) (own n h.0).thing)
retold_one owners ts rows x own (undoing.Gone (a.Node n)) h = refl
retold_one owners ts rows x own (undoing.Gone (a.Effect n)) h = refl
retold_one owners ts rows x own (undoing.Gone (a.Page n)) h = refl

pub retold_all : (owners : List (Option ℕ)) (ts : ℕ → Option AThing) (rows : List Row) → AreNumbered owners ts rows → ((k : ℕ) → is_row k owners ≡ true → IsOwner rows k) → (us : List AnUndoing) →
    AllByRecursion (IsKnownStep owners rows) (undoings_of (thing_at rows) us) → map (retold ts) us ≡ renamed_undoings (number_in owners) (undoings_of (thing_at rows) us)
retold_all owners ts rows n own [] h = refl
retold_all owners ts rows n own (u ∷ us) h = λ i. retold_one owners ts rows n own u h.0 i ∷ retold_all owners ts rows n own us h.1 i

-- what ends does so by other numbers too
pub renamed_ended : (g : ℕ → ℕ) → ((m n : ℕ) → g m ≡ g n → m ≡ n) → (t : Thing) (us : List Undoing) → is_ended (renamed_thing g t) (renamed_undoings g us) ≡ is_ended t us
renamed_ended g apart t [] = refl
renamed_ended g apart t (cleans u c ∷ us) = renamed_ended g apart t us
renamed_ended g apart t (ends u ∷ us) = λ i. renamed_same g apart t u i || renamed_ended g apart t us i
