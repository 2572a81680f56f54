-- Laws of trees that callers need: what stands nowhere stands nowhere after an edit, and nothing stands under what was emptied.
use Rattle.std.proofs.Common.{◌≡◌, ◌||◌, Bool, true, false, cond, refl, ap, ◌∙◌}
use Rattle.std.proofs.lemmas.Bool.{true≢false}
use Rattle.effect_model.specs.Owners.{Thing, Owned, nothing, thing, cleanup, emptied, put_under, same_thing, taken_out, under, with_earlier}
use Rattle.sig_owner.specs.Trees.{has_thing}

-- nothing stands under a thing that was emptied
pub under_emptied : (t : Thing) (x : Owned) → under t (emptied t x) ≡ nothing
under_emptied t nothing = refl
under_emptied t (cleanup c rest) = under_emptied t rest
under_emptied t (thing u made rest) = ap (with_earlier (cond (same_thing t u) (cond (same_thing t u) nothing (emptied t made)) (under t (cond (same_thing t u) nothing (emptied t made))))) (under_emptied t rest)
    ∙ by (same_thing t u) (under_emptied t made)
  where
    by : (b : Bool) → under t (emptied t made) ≡ nothing → with_earlier (cond b (cond b nothing (emptied t made)) (under t (cond b nothing (emptied t made)))) nothing ≡ nothing
    by true e = refl
    by false e = ap (λ y. with_earlier y nothing) e

-- both parts of a test that fails
neither : (a b : Bool) → (a || b) ≡ false → (a ≡ false) × (b ≡ false)
neither true b e = absurd (true≢false e)
neither false b e = (refl, e)

has_earlier : (t : Thing) (x y : Owned) → has_thing t x ≡ false → has_thing t y ≡ false → has_thing t (with_earlier x y) ≡ false
has_earlier t nothing y p q = q
has_earlier t (cleanup c rest) y p q = has_earlier t rest y p q
has_earlier t (thing u made rest) y p q =
    let a = neither (same_thing t u) (has_thing t made || has_thing t rest) p in
    let b = neither (has_thing t made) (has_thing t rest) a.1 in
    (λ i. a.0 i || (b.0 i || has_earlier t rest y b.1 q i))

-- what stands nowhere stands nowhere after another was put under a thing
pub has_put : (t u : Thing) (one x : Owned) → has_thing t one ≡ false → has_thing t x ≡ false → has_thing t (put_under u one x) ≡ false
has_put t u one nothing p q = refl
has_put t u one (cleanup c rest) p q = has_put t u one rest p q
has_put t u one (thing v made rest) p q =
    let a = neither (same_thing t v) (has_thing t made || has_thing t rest) q in
    let b = neither (has_thing t made) (has_thing t rest) a.1 in
    (λ i. a.0 i || (by (same_thing u v) b.0 (has_put t u one made p b.0) i || has_put t u one rest p b.1 i))
  where
    by : (c : Bool) → has_thing t made ≡ false → has_thing t (put_under u one made) ≡ false → has_thing t (cond c (with_earlier one made) (put_under u one made)) ≡ false
    by true m r = has_earlier t one made p m
    by false m r = r

-- the same after a thing was emptied
pub has_emptied : (t u : Thing) (x : Owned) → has_thing t x ≡ false → has_thing t (emptied u x) ≡ false
has_emptied t u nothing q = refl
has_emptied t u (cleanup c rest) q = has_emptied t u rest q
has_emptied t u (thing v made rest) q =
    let a = neither (same_thing t v) (has_thing t made || has_thing t rest) q in
    let b = neither (has_thing t made) (has_thing t rest) a.1 in
    (λ i. a.0 i || (by (same_thing u v) (has_emptied t u made b.0) i || has_emptied t u rest b.1 i))
  where
    by : (c : Bool) → has_thing t (emptied u made) ≡ false → has_thing t (cond c nothing (emptied u made)) ≡ false
    by true r = refl
    by false r = r

-- what was taken out stands nowhere
pub has_taken : (t : Thing) (x : Owned) → has_thing t (taken_out t x) ≡ false
has_taken t nothing = refl
has_taken t (cleanup c rest) = has_taken t rest
has_taken t (thing u made rest) = by (same_thing t u) refl (has_taken t made) (has_taken t rest)
  where
    by : (b : Bool) → same_thing t u ≡ b → has_thing t (taken_out t made) ≡ false → has_thing t (taken_out t rest) ≡ false → has_thing t (cond b (taken_out t rest) (thing u (taken_out t made) (taken_out t rest))) ≡ false
    by true e p q = q
    by false e p q = (λ i. e i || (p i || q i))
