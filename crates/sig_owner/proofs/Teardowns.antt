-- The steps of a walk undo what the tree under the holder says.
use Rattle.std.proofs.Common.{◌≡◌, ℕ, zero, suc, List, [], ◌∷◌, ◌++◌, length, refl, sym, ap, ◌∙◌, append_assoc, append-nil}
use Rattle.std.proofs.lemmas.List.{map-append}
use Rattle.effect_model.specs.Owners.{Thing, Owned, thing, nothing, cleanup, ends, cleans, teardown_of}
use Rattle.sig_owner.specs.Tables.{Item, held, leaf, noted, Row, items_at, thing_at}
use Rattle.sig_owner.specs.Trees.{piled, stands_under, under_within}
use Rattle.sig_owner.specs.Walks.{Step, item_steps, items_steps, leaves, step_undoing, steps_under, steps_undoings, steps_within}

items_teardown : (names : ℕ → Thing) (below : ℕ → Owned) (f : ℕ → List Step) (n : ℕ) → ((m : ℕ) → steps_undoings names (f m) ≡ teardown_of (names m) (below m)) →
    (is : List Item) (earlier : Owned) → teardown_of (names n) (piled names below is earlier) ≡ steps_undoings names (items_steps names f n is) ++ teardown_of (names n) earlier
items_teardown names below f n h [] earlier = refl
items_teardown names below f n h (held m ∷ is) earlier =
    items_teardown names below f n h is (thing (names m) (below m) earlier)
    ∙ sym (ap (λ us. us ++ teardown_of (names n) earlier)
    (map-append (step_undoing names) (items_steps names f n is) (f m ++ leaves m ∷ [])
    ∙ ap (λ us. steps_undoings names (items_steps names f n is) ++ us) (map-append (step_undoing names) (f m) (leaves m ∷ []) ∙ ap (λ us. us ++ ends (names m) ∷ []) (h m)))
    ∙ (append_assoc (steps_undoings names (items_steps names f n is)) (teardown_of (names m) (below m) ++ ends (names m) ∷ []) (teardown_of (names n) earlier)
    ∙ ap (λ us. steps_undoings names (items_steps names f n is) ++ us) (append_assoc (teardown_of (names m) (below m)) (ends (names m) ∷ []) (teardown_of (names n) earlier))))
items_teardown names below f n h (leaf t ∷ is) earlier =
    items_teardown names below f n h is (thing t nothing earlier)
    ∙ sym (ap (λ us. us ++ teardown_of (names n) earlier) (map-append (step_undoing names) (items_steps names f n is) (item_steps names f n (leaf t)))
    ∙ append_assoc (steps_undoings names (items_steps names f n is)) (ends t ∷ []) (teardown_of (names n) earlier))
items_teardown names below f n h (noted c ∷ is) earlier =
    items_teardown names below f n h is (cleanup c earlier)
    ∙ sym (ap (λ us. us ++ teardown_of (names n) earlier) (map-append (step_undoing names) (items_steps names f n is) (item_steps names f n (noted c)))
    ∙ append_assoc (steps_undoings names (items_steps names f n is)) (cleans (names n) c ∷ []) (teardown_of (names n) earlier))

levels_teardown : (rows : List Row) (levels n : ℕ) → steps_undoings (thing_at rows) (steps_within levels rows n) ≡ teardown_of (thing_at rows n) (under_within levels rows n)
levels_teardown rows zero n = refl
levels_teardown rows (suc levels) n =
    sym (items_teardown (thing_at rows) (under_within levels rows) (steps_within levels rows) n (levels_teardown rows levels) (items_at rows n) nothing
    ∙ append-nil (steps_undoings (thing_at rows) (items_steps (thing_at rows) (steps_within levels rows) n (items_at rows n))))

-- what the steps under a holder undo
pub teardown_steps : (rows : List Row) (n : ℕ) → steps_undoings (thing_at rows) (steps_under rows n) ≡ teardown_of (thing_at rows n) (stands_under rows n)
unfolding steps_under stands_under
teardown_steps rows n = levels_teardown rows (length rows) n
