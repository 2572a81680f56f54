-- Trees whose owners have other numbers are edited and taken back alike.
use Rattle.std.proofs.Common.{◌≡◌, ℕ, ◌||◌, ◌++◌, ◌∷◌, Bool, true, false, cond, eq-eqb, refl, sym, ap, ◌∙◌, inl, inr}
use Rattle.std.proofs.lemmas.Bool.{cases_eq, ne_eqb}
use Rattle.std.proofs.lemmas.List.{map-append}
use Rattle.effect_model.specs.Owners.{Thing, the_owner, the_signal, the_effect, the_page, the_watcher, Owned, nothing, thing, cleanup, cleans, ends, emptied, put_under, same_thing, taken_out, teardown_of, under, with_earlier}
use Rattle.sig_owner.specs.Renames.{renamed, renamed_thing, renamed_undoing, renamed_undoings}
use Rattle.sig_owner.specs.Trees.{has_thing}

pub renamed_earlier : (g : ℕ → ℕ) (x y : Owned) → renamed g (with_earlier x y) ≡ with_earlier (renamed g x) (renamed g y)
renamed_earlier g nothing y = refl
renamed_earlier g (thing t made rest) y = ap (λ z. thing (renamed_thing g t) (renamed g made) z) (renamed_earlier g rest y)
renamed_earlier g (cleanup c rest) y = ap (λ z. cleanup c z) (renamed_earlier g rest y)

pub renamed_teardown : (g : ℕ → ℕ) (t : Thing) (x : Owned) → renamed_undoings g (teardown_of t x) ≡ teardown_of (renamed_thing g t) (renamed g x)
renamed_teardown g t nothing = refl
renamed_teardown g t (cleanup c rest) = ap (λ us. cleans (renamed_thing g t) c ∷ us) (renamed_teardown g t rest)
renamed_teardown g t (thing u made rest) =
    map-append (renamed_undoing g) (teardown_of u made) (ends u ∷ teardown_of t rest)
    ∙ (λ i. renamed_teardown g u made i ++ ends (renamed_thing g u) ∷ renamed_teardown g t rest i)

module _ (g : ℕ → ℕ) (apart : (m n : ℕ) → g m ≡ g n → m ≡ n) where
  pub renamed_same : (a b : Thing) → same_thing (renamed_thing g a) (renamed_thing g b) ≡ same_thing a b
  renamed_same (the_owner m) (the_owner n) = elim (cases_eq m n) [
    | inl q ↦ eq-eqb (g m) (g n) (ap g q) ∙ sym (eq-eqb m n q)
    | inr q ↦ ne_eqb (g m) (g n) (λ e. q (apart m n e)) ∙ sym (ne_eqb m n q)
  ]
  renamed_same (the_signal m) (the_signal n) = refl
  renamed_same (the_effect m) (the_effect n) = refl
  renamed_same (the_page m) (the_page n) = refl
  renamed_same (the_watcher m) (the_watcher n) = refl
  renamed_same _ _ = refl

  chosen : (b : Bool) (x y : Owned) → renamed g (cond b x y) ≡ cond b (renamed g x) (renamed g y)
  chosen true x y = refl
  chosen false x y = refl

  pub renamed_under : (t : Thing) (x : Owned) → renamed g (under t x) ≡ under (renamed_thing g t) (renamed g x)
  renamed_under t nothing = refl
  renamed_under t (cleanup c rest) = renamed_under t rest
  renamed_under t (thing u made rest) =
      renamed_earlier g (cond (same_thing t u) made (under t made)) (under t rest)
      ∙ (ap (λ z. with_earlier z (renamed g (under t rest))) (chosen (same_thing t u) made (under t made))
      ∙ (λ i. with_earlier (cond (sym (renamed_same t u) i) (renamed g made) (renamed_under t made i)) (renamed_under t rest i)))

  pub renamed_emptied : (t : Thing) (x : Owned) → renamed g (emptied t x) ≡ emptied (renamed_thing g t) (renamed g x)
  renamed_emptied t nothing = refl
  renamed_emptied t (cleanup c rest) = ap (λ z. cleanup c z) (renamed_emptied t rest)
  renamed_emptied t (thing u made rest) =
      ap (λ z. thing (renamed_thing g u) z (renamed g (emptied t rest))) (chosen (same_thing t u) nothing (emptied t made))
      ∙ (λ i. thing (renamed_thing g u) (cond (sym (renamed_same t u) i) nothing (renamed_emptied t made i)) (renamed_emptied t rest i))

  pub renamed_put : (t : Thing) (one x : Owned) → renamed g (put_under t one x) ≡ put_under (renamed_thing g t) (renamed g one) (renamed g x)
  renamed_put t one nothing = refl
  renamed_put t one (cleanup c rest) = ap (λ z. cleanup c z) (renamed_put t one rest)
  renamed_put t one (thing u made rest) =
      ap (λ z. thing (renamed_thing g u) z (renamed g (put_under t one rest))) (chosen (same_thing t u) (with_earlier one made) (put_under t one made))
      ∙ (λ i. thing (renamed_thing g u) (cond (sym (renamed_same t u) i) (renamed_earlier g one made i) (renamed_put t one made i)) (renamed_put t one rest i))

  pub renamed_taken : (t : Thing) (x : Owned) → renamed g (taken_out t x) ≡ taken_out (renamed_thing g t) (renamed g x)
  renamed_taken t nothing = refl
  renamed_taken t (cleanup c rest) = ap (λ z. cleanup c z) (renamed_taken t rest)
  renamed_taken t (thing u made rest) =
      chosen (same_thing t u) (taken_out t rest) (thing u (taken_out t made) (taken_out t rest))
      ∙ (λ i. cond (sym (renamed_same t u) i) (renamed_taken t rest i) (thing (renamed_thing g u) (renamed_taken t made i) (renamed_taken t rest i)))

  pub renamed_has : (t : Thing) (x : Owned) → has_thing (renamed_thing g t) (renamed g x) ≡ has_thing t x
  renamed_has t nothing = refl
  renamed_has t (cleanup c rest) = renamed_has t rest
  renamed_has t (thing u made rest) = (λ i. renamed_same t u i || (renamed_has t made i || renamed_has t rest i))
