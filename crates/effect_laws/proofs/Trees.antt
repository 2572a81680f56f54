-- Counts through the edits of what is owned.
use Rattle.std.proofs.Common.{◌≡◌, ℕ, zero, suc, ◌+◌, ◌*◌, ◌≤◌, Bool, true, false, List, [], ◌∷◌, ◌++◌, refl, sym, ap, subst, arith, inl, inr}
use Rattle.std.proofs.lemmas.Bool.{eqb-true, eq-eqb}
use Rattle.std.proofs.lemmas.List.{append_assoc}
use Rattle.signal_model.proofs.Shared.{tested}
use Rattle.effect_model.specs.Owners.{Thing, the_signal, the_owner, the_effect, the_page, the_watcher, same_thing, Cleanup, Owned, nothing, thing}
use Rattle.effect_model.specs.Owners.{cleanup, Undoing, cleans, ends, teardown_of, with_earlier, under, emptied, taken_out, put_under}
use Rattle.effect_laws.specs.Rolls.{bit, times, found, waiting_under, ends_in, cleans_in}

-- ---- one thing and another

pub same_is : (t u : Thing) → same_thing t u ≡ true → t ≡ u
same_is (the_signal m) (the_signal n) h = ap the_signal (eqb-true m n h)
same_is (the_owner m) (the_owner n) h = ap the_owner (eqb-true m n h)
same_is (the_effect m) (the_effect n) h = ap the_effect (eqb-true m n h)
same_is (the_page m) (the_page n) h = ap the_page (eqb-true m n h)
same_is (the_watcher m) (the_watcher n) h = ap the_watcher (eqb-true m n h)
same_is _ _ h = cc

pub same_self : (t : Thing) → same_thing t t ≡ true
same_self (the_signal n) = eq-eqb n n refl
same_self (the_owner n) = eq-eqb n n refl
same_self (the_effect n) = eq-eqb n n refl
same_self (the_page n) = eq-eqb n n refl
same_self (the_watcher n) = eq-eqb n n refl

-- ---- lists of undoings

pub ends_append : (t : Thing) (us vs : List Undoing) → ends_in t (us ++ vs) ≡ ends_in t us + ends_in t vs
ends_append t [] vs = omega arith
ends_append t (cleans u c ∷ us) vs = ends_append t us vs
ends_append t (ends u ∷ us) vs = let r : ends_in t (us ++ vs) ≡ ends_in t us + ends_in t vs = ends_append t us vs in omega arith

pub cleans_append : (t : Thing) (p : Cleanup → Bool) (us vs : List Undoing) → cleans_in t p (us ++ vs) ≡ cleans_in t p us + cleans_in t p vs
cleans_append t p [] vs = omega arith
cleans_append t p (cleans u c ∷ us) vs =
    let r : cleans_in t p (us ++ vs) ≡ cleans_in t p us + cleans_in t p vs = cleans_append t p us vs in omega arith
cleans_append t p (ends u ∷ us) vs = cleans_append t p us vs

-- a teardown ends what stands there
pub ends_teardown : (t h : Thing) (o : Owned) → ends_in t (teardown_of h o) ≡ times t o
ends_teardown t h nothing = refl
ends_teardown t h (thing u made earlier) =
    let a : ends_in t (teardown_of u made ++ ends u ∷ teardown_of h earlier)
    ≡ ends_in t (teardown_of u made) + ends_in t (ends u ∷ teardown_of h earlier)
    = ends_append t (teardown_of u made) (ends u ∷ teardown_of h earlier) in
    let b : ends_in t (teardown_of u made) ≡ times t made = ends_teardown t u made in
    let c : ends_in t (teardown_of h earlier) ≡ times t earlier = ends_teardown t h earlier in
    omega arith
ends_teardown t h (cleanup c earlier) = ends_teardown t h earlier

-- and does what waits there
pub cleans_teardown : (t h : Thing) (p : Cleanup → Bool) (o : Owned) → cleans_in t p (teardown_of h o) ≡ waiting_under (same_thing t h) t p o
cleans_teardown t h p nothing = refl
cleans_teardown t h p (thing u made earlier) =
    let a : cleans_in t p (teardown_of u made ++ ends u ∷ teardown_of h earlier)
    ≡ cleans_in t p (teardown_of u made) + cleans_in t p (teardown_of h earlier)
    = cleans_append t p (teardown_of u made) (ends u ∷ teardown_of h earlier) in
    let b : cleans_in t p (teardown_of u made) ≡ waiting_under (same_thing t u) t p made = cleans_teardown t u p made in
    let c : cleans_in t p (teardown_of h earlier) ≡ waiting_under (same_thing t h) t p earlier = cleans_teardown t h p earlier in
    omega arith
cleans_teardown t h p (cleanup c earlier) =
    let r : cleans_in t p (teardown_of h earlier) ≡ waiting_under (same_thing t h) t p earlier = cleans_teardown t h p earlier in omega arith

-- ---- joining

pub times_joined : (t : Thing) (a b : Owned) → times t (with_earlier a b) ≡ times t a + times t b
times_joined t nothing b = omega arith
times_joined t (thing u made rest) b = let r : times t (with_earlier rest b) ≡ times t rest + times t b = times_joined t rest b in omega arith
times_joined t (cleanup c rest) b = times_joined t rest b

pub waiting_joined : (here : Bool) (t : Thing) (p : Cleanup → Bool) (a b : Owned) →
    waiting_under here t p (with_earlier a b) ≡ waiting_under here t p a + waiting_under here t p b
waiting_joined here t p nothing b = omega arith
waiting_joined here t p (thing u made rest) b =
    let r : waiting_under here t p (with_earlier rest b) ≡ waiting_under here t p rest + waiting_under here t p b = waiting_joined here t p rest b in
    omega arith
waiting_joined here t p (cleanup c rest) b =
    let r : waiting_under here t p (with_earlier rest b) ≡ waiting_under here t p rest + waiting_under here t p b = waiting_joined here t p rest b in
    omega arith

-- ---- what stands under a thing, and the rest

pub times_emptied : (t u : Thing) (o : Owned) → times t (emptied u o) + times t (under u o) ≡ times t o
times_emptied t u nothing = refl
times_emptied t u (thing v made earlier) =
    let a : times t (emptied u made) + times t (under u made) ≡ times t made = times_emptied t u made in
    let b : times t (emptied u earlier) + times t (under u earlier) ≡ times t earlier = times_emptied t u earlier in
    elim (tested (same_thing u v)) [
      | inl e ↦ rw e (let j : times t (with_earlier made (under u earlier))
          ≡ times t made + times t (under u earlier) = times_joined t made (under u earlier) in omega arith)
      | inr e ↦ rw e (let j : times t (with_earlier (under u made) (under u earlier))
          ≡ times t (under u made) + times t (under u earlier) = times_joined t (under u made) (under u earlier) in omega arith)
    ]
times_emptied t u (cleanup c earlier) = times_emptied t u earlier

pub waiting_emptied : (here : Bool) (t u : Thing) (p : Cleanup → Bool) (o : Owned) →
    waiting_under here t p (emptied u o) + waiting_under (same_thing t u) t p (under u o) ≡ waiting_under here t p o
waiting_emptied here t u p nothing = refl
waiting_emptied here t u p (thing v made earlier) =
    let a : waiting_under (same_thing t v) t p (emptied u made) + waiting_under (same_thing t u) t p (under u made)
    ≡ waiting_under (same_thing t v) t p made = waiting_emptied (same_thing t v) t u p made in
    let b : waiting_under here t p (emptied u earlier) + waiting_under (same_thing t u) t p (under u earlier)
    ≡ waiting_under here t p earlier = waiting_emptied here t u p earlier in
    elim (tested (same_thing u v)) [
      | inl e ↦
          let s : v ≡ u = sym (same_is u v e) in
          rw (e, s) (let j : waiting_under (same_thing t u) t p (with_earlier made (under u earlier))
          ≡ waiting_under (same_thing t u) t p made + waiting_under (same_thing t u) t p (under u earlier)
          = waiting_joined (same_thing t u) t p made (under u earlier) in omega arith)
      | inr e ↦ rw e (let j : waiting_under (same_thing t u) t p (with_earlier (under u made) (under u earlier))
          ≡ waiting_under (same_thing t u) t p (under u made) + waiting_under (same_thing t u) t p (under u earlier)
          = waiting_joined (same_thing t u) t p (under u made) (under u earlier) in omega arith)
    ]
waiting_emptied here t u p (cleanup c earlier) =
    let r : waiting_under here t p (emptied u earlier) + waiting_under (same_thing t u) t p (under u earlier)
    ≡ waiting_under here t p earlier = waiting_emptied here t u p earlier in omega arith

-- nothing waits where a thing was emptied
pub none_emptied : (u : Thing) (p : Cleanup → Bool) (o : Owned) → waiting_under false u p (emptied u o) ≡ 0
none_emptied u p nothing = refl
none_emptied u p (thing v made earlier) =
    let a : waiting_under false u p (emptied u made) ≡ 0 = none_emptied u p made in
    let b : waiting_under false u p (emptied u earlier) ≡ 0 = none_emptied u p earlier in
    elim (tested (same_thing u v)) [ inl e ↦ rw e (omega arith) | inr e ↦ rw e (omega arith) ]
none_emptied u p (cleanup c earlier) = let r : waiting_under false u p (emptied u earlier) ≡ 0 = none_emptied u p earlier in omega arith

-- and none waits under what doesn't stand
pub none_waits : (u : Thing) (p : Cleanup → Bool) (o : Owned) → times u o ≡ 0 → waiting_under false u p o ≡ 0
none_waits u p nothing h = refl
none_waits u p (thing v made earlier) h = elim (tested (same_thing u v)) [
  | inl e ↦ absurd (no e)
  | inr e ↦
      let a : waiting_under false u p made ≡ 0 = none_waits u p made (omega arith) in
      let b : waiting_under false u p earlier ≡ 0 = none_waits u p earlier (omega arith) in
      rw e (omega arith)
]
  where
    no : same_thing u v ≡ true → ⊥
    no e = let k : bit (same_thing u v) ≡ 1 = ap bit e in omega arith
none_waits u p (cleanup c earlier) h = let r : waiting_under false u p earlier ≡ 0 = none_waits u p earlier h in omega arith

-- where a thing is taken out, the counts of another are parted
pub times_taken : (t u : Thing) (o : Owned) → same_thing t u ≡ false → times t (taken_out u o) + times t (under u o) ≡ times t o
times_taken t u nothing other = refl
times_taken t u (thing v made earlier) other =
    let a : times t (taken_out u made) + times t (under u made) ≡ times t made = times_taken t u made other in
    let b : times t (taken_out u earlier) + times t (under u earlier) ≡ times t earlier = times_taken t u earlier other in
    elim (tested (same_thing u v)) [
      | inl e ↦
          let s : v ≡ u = sym (same_is u v e) in
          rw (e, s, other) (let j : times t (with_earlier made (under u earlier))
          ≡ times t made + times t (under u earlier) = times_joined t made (under u earlier) in omega arith)
      | inr e ↦ rw e (let j : times t (with_earlier (under u made) (under u earlier))
          ≡ times t (under u made) + times t (under u earlier) = times_joined t (under u made) (under u earlier) in omega arith)
    ]
times_taken t u (cleanup c earlier) other = times_taken t u earlier other

-- and its own
pub self_taken : (u : Thing) (o : Owned) → times u (taken_out u o) + times u (under u o) + found u o ≡ times u o
self_taken u nothing = refl
self_taken u (thing v made earlier) =
    let a : times u (taken_out u made) + times u (under u made) + found u made ≡ times u made = self_taken u made in
    let b : times u (taken_out u earlier) + times u (under u earlier) + found u earlier ≡ times u earlier = self_taken u earlier in
    elim (tested (same_thing u v)) [
      | inl e ↦ rw e (let j : times u (with_earlier made (under u earlier))
          ≡ times u made + times u (under u earlier) = times_joined u made (under u earlier) in omega arith)
      | inr e ↦ let k : bit (same_thing u v) ≡ 0 = ap bit e in
          rw e (let j : times u (with_earlier (under u made) (under u earlier))
          ≡ times u (under u made) + times u (under u earlier) = times_joined u (under u made) (under u earlier) in omega arith)
    ]
self_taken u (cleanup c earlier) = self_taken u earlier

pub waiting_taken : (here : Bool) (t u : Thing) (p : Cleanup → Bool) (o : Owned) →
    waiting_under here t p (taken_out u o) + waiting_under (same_thing t u) t p (under u o) ≡ waiting_under here t p o
waiting_taken here t u p nothing = refl
waiting_taken here t u p (thing v made earlier) =
    let a : waiting_under (same_thing t v) t p (taken_out u made) + waiting_under (same_thing t u) t p (under u made)
    ≡ waiting_under (same_thing t v) t p made = waiting_taken (same_thing t v) t u p made in
    let b : waiting_under here t p (taken_out u earlier) + waiting_under (same_thing t u) t p (under u earlier)
    ≡ waiting_under here t p earlier = waiting_taken here t u p earlier in
    elim (tested (same_thing u v)) [
      | inl e ↦
          let s : v ≡ u = sym (same_is u v e) in
          rw (e, s) (let j : waiting_under (same_thing t u) t p (with_earlier made (under u earlier))
          ≡ waiting_under (same_thing t u) t p made + waiting_under (same_thing t u) t p (under u earlier)
          = waiting_joined (same_thing t u) t p made (under u earlier) in omega arith)
      | inr e ↦ rw e (let j : waiting_under (same_thing t u) t p (with_earlier (under u made) (under u earlier))
          ≡ waiting_under (same_thing t u) t p (under u made) + waiting_under (same_thing t u) t p (under u earlier)
          = waiting_joined (same_thing t u) t p (under u made) (under u earlier) in omega arith)
    ]
waiting_taken here t u p (cleanup c earlier) =
    let r : waiting_under here t p (taken_out u earlier) + waiting_under (same_thing t u) t p (under u earlier)
    ≡ waiting_under here t p earlier = waiting_taken here t u p earlier in omega arith

-- ---- where a thing is found

pub found_least : (u : Thing) (o : Owned) → 1 ≤ times u o → 1 ≤ found u o
found_least u nothing h = h
found_least u (thing v made earlier) h = elim (tested (same_thing u v)) [
  | inl e ↦ rw e (omega arith)
  | inr e ↦
      let k : bit (same_thing u v) ≡ 0 = ap bit e in
      rw e (by (times u made) (times u earlier) (omega arith) (found_least u made) (found_least u earlier))
]
  where
    by : (m n : ℕ) → 1 ≤ m + n → (1 ≤ m → 1 ≤ found u made) → (1 ≤ n → 1 ≤ found u earlier) → 1 ≤ found u made + found u earlier
    by zero n env f g = let k : 1 ≤ found u earlier = g (omega arith) in omega arith
    by (suc m) n env f g = let k : 1 ≤ found u made = f (omega arith) in omega arith
found_least u (cleanup c earlier) h = found_least u earlier h

-- it still stands where it was emptied
pub found_emptied : (u : Thing) (o : Owned) → found u o ≤ times u (emptied u o)
found_emptied u nothing = omega arith
found_emptied u (thing v made earlier) =
    let a : found u made ≤ times u (emptied u made) = found_emptied u made in
    let b : found u earlier ≤ times u (emptied u earlier) = found_emptied u earlier in
    elim (tested (same_thing u v)) [ inl e ↦ rw e (omega arith) | inr e ↦ rw e (omega arith) ]
found_emptied u (cleanup c earlier) = found_emptied u earlier

-- ---- one more is put under a thing

pub times_put : (t u : Thing) (one o : Owned) → times t (put_under u one o) ≡ times t o + found u o * times t one
times_put t u one nothing = omega arith
times_put t u one (thing v made earlier) =
    let a : times t (put_under u one made) ≡ times t made + found u made * times t one = times_put t u one made in
    let b : times t (put_under u one earlier) ≡ times t earlier + found u earlier * times t one = times_put t u one earlier in
    elim (tested (same_thing u v)) [
      | inl e ↦ rw e (let j : times t (with_earlier one made) ≡ times t one + times t made = times_joined t one made in omega arith)
      | inr e ↦ rw e (omega arith)
    ]
times_put t u one (cleanup c earlier) = times_put t u one earlier

pub waiting_put : (here : Bool) (t u : Thing) (p : Cleanup → Bool) (one o : Owned) →
    waiting_under here t p (put_under u one o) ≡ waiting_under here t p o + found u o * waiting_under (same_thing t u) t p one
waiting_put here t u p one nothing = omega arith
waiting_put here t u p one (thing v made earlier) =
    let a : waiting_under (same_thing t v) t p (put_under u one made)
    ≡ waiting_under (same_thing t v) t p made + found u made * waiting_under (same_thing t u) t p one =
    waiting_put (same_thing t v) t u p one made in
    let b : waiting_under here t p (put_under u one earlier)
    ≡ waiting_under here t p earlier + found u earlier * waiting_under (same_thing t u) t p one = waiting_put here t u p one earlier in
    elim (tested (same_thing u v)) [
      | inl e ↦
          let s : v ≡ u = sym (same_is u v e) in
          rw (e, s) (let j : waiting_under (same_thing t u) t p (with_earlier one made)
          ≡ waiting_under (same_thing t u) t p one + waiting_under (same_thing t u) t p made = waiting_joined (same_thing t u) t p one made in
          omega arith)
      | inr e ↦ rw e (omega arith)
    ]
waiting_put here t u p one (cleanup c earlier) =
    let r : waiting_under here t p (put_under u one earlier)
    ≡ waiting_under here t p earlier + found u earlier * waiting_under (same_thing t u) t p one = waiting_put here t u p one earlier in omega arith

-- ---- the order of a teardown

-- A teardown that is to be done, beside what stands: who has a cleanup in it still stands or ends later; and where a thing ends, nothing of
-- its own is left to be done.
abbrev pub AreOrdered : Owned → List Undoing → Type 0
AreOrdered o [] = Unit {0}
AreOrdered o (cleans t c ∷ us) = (1 ≤ times t o + ends_in t us) × AreOrdered o us
AreOrdered o (ends t ∷ us) = ((p : Cleanup → Bool) → waiting_under false t p o + cleans_in t p us ≡ 0) × AreOrdered o us

-- what stands nowhere has nothing to be done
pub none_to_do : (t : Thing) (p : Cleanup → Bool) (o : Owned) (us : List Undoing) → AreOrdered o us → times t o + ends_in t us ≡ 0 →
    waiting_under false t p o + cleans_in t p us ≡ 0
none_to_do t p o [] a h = let w : waiting_under false t p o ≡ 0 = none_waits t p o (omega arith) in omega arith
none_to_do t p o (cleans u c ∷ us) a h = elim (tested (same_thing t u)) [
  | inl e ↦ absurd (no (same_is t u e))
  | inr e ↦
      let r : waiting_under false t p o + cleans_in t p us ≡ 0 = none_to_do t p o us a.1 h in
      rw e (omega arith)
]
  where
    no : t ≡ u → ⊥
    no e = let k : 1 ≤ times t o + ends_in t us = subst (λ x. 1 ≤ times x o + ends_in x us) (sym e) a.0 in omega arith
none_to_do t p o (ends u ∷ us) a h = none_to_do t p o us a.1 (omega arith)

-- the teardown of what stands under a holder comes in order, where no thing stands twice
pub teardown_ordered : (h : Thing) (o under' : Owned) (rest : List Undoing) →
    ((t : Thing) → times t o + (times t under' + ends_in t rest) ≤ 1) → 1 ≤ times h o + ends_in h rest → AreOrdered o rest →
    AreOrdered o (teardown_of h under' ++ rest)
teardown_ordered h o nothing rest once there a = a
teardown_ordered h o (cleanup c earlier) rest once there a = (
  let e : ends_in h (teardown_of h earlier ++ rest)
      ≡ ends_in h (teardown_of h earlier) + ends_in h rest = ends_append h (teardown_of h earlier) rest in omega arith,
  teardown_ordered h o earlier rest once there a,
)
teardown_ordered h o (thing u made earlier) rest once there a =
    let later : AreOrdered o (teardown_of h earlier ++ rest) =
    teardown_ordered h o earlier rest
    (λ t. let k : times t o + (bit (same_thing t u) + (times t made + times t earlier) + ends_in t rest) ≤ 1 = once t in omega arith) there a in
    subst (AreOrdered o) (sym (append_assoc (teardown_of u made) (ends u ∷ teardown_of h earlier) rest))
    (teardown_ordered u o made (ends u ∷ teardown_of h earlier ++ rest) (λ t. sum t) here (own later, later))
  where
    ends_later : (t : Thing) → ends_in t (teardown_of h earlier ++ rest) ≡ times t earlier + ends_in t rest
    ends_later t = let k : ends_in t (teardown_of h earlier) ≡ times t earlier = ends_teardown t h earlier in
        let e : ends_in t (teardown_of h earlier ++ rest)
        ≡ ends_in t (teardown_of h earlier) + ends_in t rest = ends_append t (teardown_of h earlier) rest in omega arith

    sum : (t : Thing) → times t o + (times t made + ends_in t (ends u ∷ teardown_of h earlier ++ rest)) ≤ 1
    sum t = let k : times t o + (bit (same_thing t u) + (times t made + times t earlier) + ends_in t rest) ≤ 1 = once t in
        let e : ends_in t (teardown_of h earlier ++ rest) ≡ times t earlier + ends_in t rest = ends_later t in omega arith

    one : bit (same_thing u u) ≡ 1
    one = ap bit (same_self u)

    here : 1 ≤ times u o + ends_in u (ends u ∷ teardown_of h earlier ++ rest)
    here = let k : bit (same_thing u u) ≡ 1 = one in omega arith

    own : AreOrdered o (teardown_of h earlier ++ rest) → (p : Cleanup → Bool) →
        waiting_under false u p o + cleans_in u p (teardown_of h earlier ++ rest) ≡ 0
    own a p = none_to_do u p o (teardown_of h earlier ++ rest) a
        (let k : times u o + (bit (same_thing u u) + (times u made + times u earlier) + ends_in u rest) ≤ 1 = once u in
        let b : bit (same_thing u u) ≡ 1 = one in
        let e : ends_in u (teardown_of h earlier ++ rest) ≡ times u earlier + ends_in u rest = ends_later u in omega arith)
