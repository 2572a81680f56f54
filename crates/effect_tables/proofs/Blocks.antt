-- Places that are marked by themselves or with their blocks.
use Rattle.std.proofs.Common.{◌≡◌, ◌⊎◌, inl, inr, ℕ, zero, suc, ◌+◌, ◌*◌, ◌/◌, ◌==◌, ◌||◌, ◌<◌, ◌≤◌, Bool, true, false, List, [], ◌∷◌, take, refl, sym, ap, subst, ◌∙◌, arith}
use Rattle.std.proofs.lemmas.Bool.{true≢false}
use Rattle.std.proofs.lemmas.Nat.{div_below, le-div}
use Rattle.std.proofs.Math.Nat.{div-mul-le_self, lt-div-mul-add}
use Rattle.effect_tables.specs.declared.quiet_places.QuietPlaces.{QuietPlaces}
use Rattle.effect_tables.specs.declared.quiet_places.TheConstants.{BLOCK}
use Rattle.effect_tables.specs.Heard.{is_marked, is_set, AreSet}

-- one of two is so
either_is : (b c : Bool) → (b || c) ≡ true → (b ≡ true) ⊎ (c ≡ true)
either_is true c h = inl refl
either_is false c h = inr h

either_first : (b c : Bool) → b ≡ true → (b || c) ≡ true
either_first b c h = ap (λ d. d || c) h

either_second : (b c : Bool) → c ≡ true → (b || c) ≡ true
either_second true c h = refl
either_second false c h = h

-- a mark that is set among the first is set
pub take_set : (n p : ℕ) (bs : List Bool) → is_set p (take n bs) ≡ true → is_set p bs ≡ true
take_set zero p bs h = absurd (true≢false (sym h))
take_set (suc n) p [] h = absurd (true≢false (sym h))
take_set (suc n) zero (b ∷ bs) h = h
take_set (suc n) (suc p) (b ∷ bs) h = take_set n p bs h

-- fewer are set, each by itself and in blocks
pub both_less : (old new : QuietPlaces) → ((p : ℕ) → is_set p new.full.items ≡ true → is_set p old.full.items ≡ true) →
    ((p : ℕ) → is_set p new.ones.items ≡ true → is_set p old.ones.items ≡ true) → (p : ℕ) → is_marked p new ≡ true → is_marked p old ≡ true
both_less old new full ones p h = elim (either_is (is_set (p / BLOCK) new.full.items) (is_set p new.ones.items) h) [
  | inl f ↦ either_first (is_set (p / BLOCK) old.full.items) (is_set p old.ones.items) (full (p / BLOCK) f)
  | inr o ↦ either_second (is_set (p / BLOCK) old.full.items) (is_set p old.ones.items) (ones p o)
]

-- one more is set by itself
pub one_more : (old new : QuietPlaces) (place : ℕ) → new.full.items ≡ old.full.items →
    ((p : ℕ) → is_set p new.ones.items ≡ true → (is_set p old.ones.items ≡ true) ⊎ (p ≡ place)) →
    (p : ℕ) → is_marked p new ≡ true → (is_marked p old ≡ true) ⊎ (p ≡ place)
one_more old new place full ones p h = elim (either_is (is_set (p / BLOCK) new.full.items) (is_set p new.ones.items) h) [
  | inl f ↦ inl (either_first (is_set (p / BLOCK) old.full.items) (is_set p old.ones.items) (sym (ap (is_set (p / BLOCK)) full) ∙ f))
  | inr o ↦ elim (ones p o) [ inl was ↦ inl (either_second (is_set (p / BLOCK) old.full.items) (is_set p old.ones.items) was) | inr is ↦ inr is ]
]

-- a place stands in its block
in_block : (p b : ℕ) → p / BLOCK ≡ b → (b * BLOCK ≤ p) × (p < b * BLOCK + BLOCK)
in_block p b is = (subst (λ c. c * BLOCK ≤ p) is (div-mul-le_self p BLOCK), subst (λ c. p < c * BLOCK + BLOCK) is (lt-div-mul-add {a = p} {b = BLOCK} (omega arith)))

-- and its block, each of whose places is
pub block_more : (old new : QuietPlaces) (place block : ℕ) → AreSet (block * BLOCK) BLOCK new.ones.items →
    ((b : ℕ) → is_set b new.full.items ≡ true → (is_set b old.full.items ≡ true) ⊎ (b ≡ block)) →
    ((p : ℕ) → is_set p new.ones.items ≡ true → (is_set p old.ones.items ≡ true) ⊎ (p ≡ place)) →
    (p : ℕ) → is_marked p new ≡ true → (is_marked p old ≡ true) ⊎ (p ≡ place)
block_more old new place block filled full ones p h = elim (either_is (is_set (p / BLOCK) new.full.items) (is_set p new.ones.items) h) [
  | inl f ↦ elim (full (p / BLOCK) f) [
    | inl was ↦ inl (either_first (is_set (p / BLOCK) old.full.items) (is_set p old.ones.items) was)
    | inr is ↦ by_itself (filled p (in_block p block is).0 (in_block p block is).1)
  ]
  | inr o ↦ by_itself o
]
  where
    by_itself : is_set p new.ones.items ≡ true → (is_marked p old ≡ true) ⊎ (p ≡ place)
    by_itself o = elim (ones p o) [ inl was ↦ inl (either_second (is_set (p / BLOCK) old.full.items) (is_set p old.ones.items) was) | inr is ↦ inr is ]

-- those of whole blocks are marked
blocks_passed : (q : QuietPlaces) (next block p : ℕ) → next * BLOCK ≤ p → p < block * BLOCK →
    ((b : ℕ) → next ≤ b → b < block → is_set b q.full.items ≡ true) → is_marked p q ≡ true
blocks_passed q next block p low high full =
    either_first (is_set (p / BLOCK) q.full.items) (is_set p q.ones.items)
    (full (p / BLOCK) (le-div next p BLOCK (omega arith) low) (div_below p BLOCK block (omega arith) high))

-- a place before another one, or not
before_or : (p q : ℕ) → (p < q) ⊎ (q ≤ p)
before_or p zero = inr (omega arith)
before_or zero (suc q) = inl (omega arith)
before_or (suc p) (suc q) = elim (before_or p q) [ inl l ↦ inl (omega (arith, l)) | inr m ↦ inr (omega (arith, m)) ]

-- those by themselves are
ones_passed : (q : QuietPlaces) (p : ℕ) → is_set p q.ones.items ≡ true → is_marked p q ≡ true
ones_passed q p h = either_second (is_set (p / BLOCK) q.full.items) (is_set p q.ones.items) h

pub near_passed : (q : QuietPlaces) (from near : ℕ) → ((p : ℕ) → from ≤ p → p < near → is_set p q.ones.items ≡ true) →
    (p : ℕ) → from ≤ p → p < near → is_marked p q ≡ true
near_passed q from near ones p low high = ones_passed q p (ones p low high)

-- to the end of a block, over whole blocks, and on one by one
pub all_passed : (q : QuietPlaces) (from near stop next block start end : ℕ) → stop ≤ near → (next * BLOCK ≤ stop) ⊎ (end ≤ stop) → (start ≤ near) ⊎ (start ≤ block * BLOCK) →
    ((p : ℕ) → from ≤ p → p < near → is_set p q.ones.items ≡ true) →
    ((b : ℕ) → next ≤ b → b < block → is_set b q.full.items ≡ true) →
    ((p : ℕ) → start ≤ p → p < end → is_set p q.ones.items ≡ true) →
    (p : ℕ) → from ≤ p → p < end → is_marked p q ≡ true
all_passed q from near stop next block start end passed whole begun before full behind p low high = elim (before_or p near) [
  | inl l ↦ ones_passed q p (before p low l)
  | inr m ↦ elim (before_or p start) [
    | inl l ↦ elim begun [
      | inl s ↦ absurd (omega (arith, l, m, s))
      | inr s ↦ elim whole [
        | inl w ↦ blocks_passed q next block p (omega (arith, m, passed, w)) (omega (arith, l, s)) full
        | inr w ↦ absurd (omega (arith, m, passed, w, high))
      ]
    ]
    | inr s ↦ ones_passed q p (behind p s high)
  ]
]
