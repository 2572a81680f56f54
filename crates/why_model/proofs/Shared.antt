-- What crates above may cite of these proofs.
use Rattle.std.proofs.Common.{◌≡◌, ℕ, ◌+◌, ◌≤◌, Bool, true, false, cond, List, [], ◌∷◌, ◌++◌, length, arith, refl, ap}
use Rattle.effect_model.specs.Worlds.{Event, ran, changed_signal}
use Rattle.why_model.specs.Facts.{Fact, was_changed, last_number}
use Rattle.why_model.specs.Records.{Journal, with_fact, with_facts}
use Rattle.why_model.specs.Told.{run_fact, facts_told}

-- what a search finds is one of the facts
pub number_inside : (test : Fact → List Fact → Bool) (js : List Fact) → last_number test js ≤ length js
number_inside test [] = omega arith
number_inside test (f ∷ earlier) = go (test f earlier) (number_inside test earlier)
  where
    go : (b : Bool) → last_number test earlier ≤ length earlier → cond b (length earlier + 1) (last_number test earlier) ≤ length (f ∷ earlier)
    go true h = omega arith
    go false h = omega arith

-- the facts of what was told one after the other
pub facts_append : (es fs : List Event) → facts_told (es ++ fs) ≡ facts_told es ++ facts_told fs
facts_append [] fs = refl
facts_append (ran m ∷ es) fs = ap (λ xs. run_fact m.run ∷ xs) (facts_append es fs)
facts_append (changed_signal n how ∷ es) fs = ap (λ xs. was_changed n how ∷ xs) (facts_append es fs)
facts_append (_ ∷ es) fs = facts_append es fs

-- facts are noted one after the other
pub noted_both : (es fs : List Fact) (j : Journal) → with_facts (es ++ fs) j ≡ with_facts fs (with_facts es j)
noted_both [] fs j = refl
noted_both (e ∷ es) fs j = noted_both es fs (with_fact e j)
