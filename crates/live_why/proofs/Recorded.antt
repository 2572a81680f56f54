-- A fact is noted where there is place for it.
use Rattle.std.proofs.Common.{◌≡◌, ◌≤◌, Bool, true, false, cond, List, [], ◌∷◌, ◌++◌, length, nat_lt, refl, sym, ap, ◌∙◌}
use Rattle.std.proofs.lemmas.Bool.{le-ltb, ltb-false}
use Rattle.why_model.specs.declared.limits.TheConstants.{MOST_FACTS}
use Rattle.why_model.specs.Facts.{Fact}
use Rattle.why_model.specs.Records.{Journal, with_fact}

-- by whether there is
by_place : (f : Fact) (j : Journal) (b : Bool) → nat_lt (length j.facts) MOST_FACTS ≡ b →
    with_fact f j ≡ cond b (record j { facts = j.facts ++ f ∷ [] }) (record j { full = true })
unfolding with_fact
by_place f j b e = ap (λ (t : Bool). cond t (record j { facts = j.facts ++ f ∷ [] }) (record j { full = true })) e

with_place : (f : Fact) (j : Journal) → (MOST_FACTS ≤ length j.facts → ⊥) → with_fact f j ≡ record j { facts = j.facts ++ f ∷ [] }
with_place f j place = go (nat_lt (length j.facts) MOST_FACTS) refl
  where
    go : (b : Bool) → nat_lt (length j.facts) MOST_FACTS ≡ b → with_fact f j ≡ record j { facts = j.facts ++ f ∷ [] }
    go true e = by_place f j true e
    go false e = absurd (place (ltb-false (length j.facts) MOST_FACTS e))

without_place : (f : Fact) (j : Journal) → MOST_FACTS ≤ length j.facts → with_fact f j ≡ record j { full = true }
without_place f j full = by_place f j false (le-ltb (length j.facts) MOST_FACTS full)

-- a fact came behind those before it
pub noted_behind : (f : Fact) (now : Journal) (before after : List Fact) (full : Bool) → record { facts = before; full = full } ≡ now →
    after ≡ before ++ f ∷ [] → (MOST_FACTS ≤ length before → ⊥) → record { facts = after; full = full } ≡ with_fact f now
noted_behind f now before after full is noted place =
    let j : Journal = record { facts = before; full = full } in
    ap (λ (fs : List Fact). record j { facts = fs }) noted ∙ sym (with_place f j place) ∙ ap (with_fact f) is

-- or there was no place for it
pub noted_full : (f : Fact) (now : Journal) (before after : List Fact) (full : Bool) → record { facts = before; full = full } ≡ now →
    after ≡ before → MOST_FACTS ≤ length before → record { facts = after; full = true } ≡ with_fact f now
noted_full f now before after full is same none =
    let j : Journal = record { facts = before; full = full } in
    ap (λ (fs : List Fact). record { facts = fs; full = true }) same ∙ sym (without_place f j none) ∙ ap (with_fact f) is
