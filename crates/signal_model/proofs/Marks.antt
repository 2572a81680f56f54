-- The search for a computed that must run goes far enough.
use Rattle.std.proofs.Common.{◌≡◌, ℕ, zero, suc, ◌+◌, ◌≤◌, ◌==◌, ◌||◌, Bool, true, false, cond, List, [], ◌∷◌, length, Option, Some, None, refl}
use Rattle.std.proofs.Common.{sym, ap, ◌∙◌, arith, ◌⊎◌, inl, inr}
use Rattle.std.specs.Prelude.{nat_le}
use Rattle.std.proofs.lemmas.Bool.{eqb-true, eq-eqb}
use Rattle.std.proofs.lemmas.Bool.Decides.{nat_tests}
use Rattle.signal_model.specs.Signals.{Signals, Computed, Stands, IsGone, IsCell, IsComputed, is_computed, is_in, computed_at, standing}
use Rattle.signal_model.specs.Memos.{Source, Memo, Memos, keeps, memo_of, must_run, source_names, sources_in, sources_of}
use Rattle.signal_model.specs.Marks.{IsBelow, kept, kept_below, is_due, HasBelow, Mark, Clean, Checked, Dirty, IsMark, some_source, found_below}
use Rattle.signal_model.specs.Marks.{due_below}
use Rattle.signal_model.specs.Kept.{OnlyComputedsKeep}
use Rattle.signal_model.specs.Laws.{Searches, SearchLaw, BelowLaw, MarkLaw}
use Rattle.signal_model.proofs.Depth.{chosen, stands-computed}
use Rattle.signal_model.proofs.Tests.{tested, either, or_left, or_right, or_weaker}

-- ---- some source passes a test

some_weaker : (f g : ℕ → Bool) → ((m : ℕ) → f m ≡ true → g m ≡ true) → (ss : List Source) → some_source f ss ≡ true → some_source g ss ≡ true
some_weaker f g le [] h = h
some_weaker f g le (s ∷ ss) h = elim (either (f s.name) (some_source f ss) h) [
  | inl here ↦ or_left (g s.name) (some_source g ss) (le s.name here)
  | inr there ↦ or_right (g s.name) (some_source g ss) (some_weaker f g le ss there)
]

some_found : (f : ℕ → Bool) (ss : List Source) → some_source f ss ≡ true → (m : ℕ) × ((is_in m (source_names ss) ≡ true) × (f m ≡ true))
some_found f [] h = cc
some_found f (s ∷ ss) h = elim (either (f s.name) (some_source f ss) h) [
  | inl here ↦ (s.name, (or_left (s.name == s.name) (is_in s.name (source_names ss)) (eq-eqb s.name s.name refl), here))
  | inr there ↦
      let r : (m : ℕ) × ((is_in m (source_names ss) ≡ true) × (f m ≡ true)) = some_found f ss there in
      (r.0, (or_right (r.0 == s.name) (is_in r.0 (source_names ss)) r.1.0, r.1.1))
]

some_at : (f : ℕ → Bool) (ss : List Source) (m : ℕ) → is_in m (source_names ss) ≡ true → f m ≡ true → some_source f ss ≡ true
some_at f [] m on h = on
some_at f (s ∷ ss) m on h = elim (either (m == s.name) (is_in m (source_names ss)) on) [
  | inl here ↦ or_left (f s.name) (some_source f ss) (ap f (sym (eqb-true m s.name here)) ∙ h)
  | inr there ↦ or_right (f s.name) (some_source f ss) (some_at f ss m there h)
]

-- ---- how many computeds pass a test

abbrev count_of : (ℕ → Bool) → List Computed → ℕ
count_of f [] = 0
count_of f (c ∷ cs) = cond (f c.name) 1 0 + count_of f cs

count-weaker : (f g : ℕ → Bool) → ((m : ℕ) → f m ≡ true → g m ≡ true) → (cs : List Computed) → count_of f cs ≤ count_of g cs
count-weaker f g le [] = omega arith
count-weaker f g le (c ∷ cs) = go (f c.name) (g c.name) (le c.name) (count-weaker f g le cs)
  where
    go : (a b : Bool) → (a ≡ true → b ≡ true) → count_of f cs ≤ count_of g cs → cond a 1 0 + count_of f cs ≤ cond b 1 0 + count_of g cs
    go true true h r = omega (arith, r)
    go true false h r = cc (h refl)
    go false true h r = omega (arith, r)
    go false false h r = omega (arith, r)

count-all : (cs : List Computed) → count_of (λ m. true) cs ≡ length cs
count-all [] = refl
count-all (c ∷ cs) = let r : count_of (λ m. true) cs ≡ length cs = count-all cs in omega (arith, r)

-- where no more computeds pass a weaker test, those that pass it pass both
count-same : (f g : ℕ → Bool) → ((m : ℕ) → f m ≡ true → g m ≡ true) → (cs : List Computed) → count_of g cs ≤ count_of f cs → (n : ℕ) (c : Computed) →
    computed_at n cs ≡ Some c →
    g n ≡ true → f n ≡ true
count-same f g le [] few n c at h = cc
count-same f g le (d ∷ ds) few n c at h =
    let fewer : count_of f ds ≤ count_of g ds = count-weaker f g le ds in
    elim (chosen (n == d.name) d (computed_at n ds) c at) [
      | inl here ↦
          let name : n ≡ d.name = eqb-true n d.name here.0 in
          ap f name ∙ head (f d.name) (g d.name) (ap g (sym name) ∙ h) fewer few
      | inr there ↦ count-same f g le ds (tail (f d.name) (g d.name) (le d.name) fewer few) n c there.1 h
    ]
  where
    head : (a b : Bool) → b ≡ true → count_of f ds ≤ count_of g ds → cond b 1 0 + count_of g ds ≤ cond a 1 0 + count_of f ds → a ≡ true
    head true b e r k = refl
    head false true e r k = absurd (omega (arith, r, k))
    head false false e r k = e

    tail : (a b : Bool) → (a ≡ true → b ≡ true) → count_of f ds ≤ count_of g ds → cond b 1 0 + count_of g ds ≤ cond a 1 0 + count_of f ds →
        count_of g ds ≤ count_of f ds
    tail true true e r k = omega (arith, k)
    tail true false e r k = cc (e refl)
    tail false b e r k = go b k
      where
        go : (b : Bool) → cond b 1 0 + count_of g ds ≤ 0 + count_of f ds → count_of g ds ≤ count_of f ds
        go true k = omega (arith, k)
        go false k = omega (arith, k)

-- ---- the search

module _ (test : ℕ → Bool) (w : Signals) (k : Memos) where
  -- how many computeds find something within so many steps
  abbrev finders : ℕ → ℕ
  finders far = count_of (found_below test far k) w.computeds

  -- one more step finds no less
  more_steps : (far n : ℕ) → found_below test far k n ≡ true → found_below test (suc far) k n ≡ true
  more_steps zero n h = cc
  more_steps (suc far) n h =
      some_weaker (λ m. test m || found_below test far k m) (λ m. test m || found_below test (suc far) k m)
      (λ m. or_weaker (test m) (found_below test far k m) (found_below test (suc far) k m) (more_steps far m)) (sources_of k n) h

  -- one more step finds nothing more
  abbrev IsOver : ℕ → Type 0
  IsOver far = (n : ℕ) → found_below test (suc far) k n ≡ true → found_below test far k n ≡ true

  over_on : (far : ℕ) → IsOver far → IsOver (suc far)
  over_on far over n h =
      some_weaker (λ m. test m || found_below test (suc far) k m) (λ m. test m || found_below test far k m)
      (λ m. or_weaker (test m) (found_below test (suc far) k m) (found_below test far k m) (over m)) (sources_of k n) h

  module _ (only : OnlyComputedsKeep w k) where
    computed_there : (n : ℕ) → is_computed (standing w n) ≡ true → (c : Computed) × (computed_at n w.computeds ≡ Some c)
    computed_there n h = go (standing w n) refl h
      where
        go : (s : Stands) → standing w n ≡ s → is_computed s ≡ true → (c : Computed) × (computed_at n w.computeds ≡ Some c)
        go IsGone e i = cc
        go (IsCell c) e i = cc
        go (IsComputed c) e i = (c, stands-computed w n c e)

    -- what finds something is a computed
    finder : (far n : ℕ) → found_below test far k n ≡ true → (c : Computed) × (computed_at n w.computeds ≡ Some c)
    finder zero n h = cc
    finder (suc far) n h = computed_there n (go (memo_of k n) refl h)
      where
        go : (o : Option Memo) → memo_of k n ≡ o → some_source (λ m. test m || found_below test far k m) (sources_in o) ≡ true →
            is_computed (standing w n) ≡ true
        go None e i = cc
        go (Some memo) e i = only n memo e

    -- where no more computeds find something in one more step, it finds nothing more
    over_where : (far : ℕ) → finders (suc far) ≤ finders far → IsOver far
    over_where far few n h =
        let c : (c : Computed) × (computed_at n w.computeds ≡ Some c) = finder (suc far) n h in
        count-same (found_below test far k) (found_below test (suc far) k) (more_steps far) w.computeds few n c.0 c.1 h

    -- a step finds nothing more, or in each step one more computed finds something
    steps : (far : ℕ) → IsOver far ⊎ (far ≤ finders far)
    steps zero = inr (omega arith)
    steps (suc far) = elim (steps far) [
      | inl over ↦ inl (over_on far over)
      | inr le ↦ go (tested (nat_le (finders (suc far)) (finders far))) le
    ]
      where
        go : (nat_le (finders (suc far)) (finders far) ≡ true) ⊎ (nat_le (finders (suc far)) (finders far) ≡ false) → far ≤ finders far →
            IsOver (suc far) ⊎ (suc far ≤ finders (suc far))
        go (inl small) le = let few : finders (suc far) ≤ finders far = grind (arith, nat_tests) in inl (over_on far (over_where far few))
        go (inr large) le = inr (grind (arith, nat_tests))

    over_at_last : IsOver (length w.computeds)
    over_at_last = elim (steps (length w.computeds)) [
      | inl over ↦ over
      | inr all ↦ λ n h.
          let c : (c : Computed) × (computed_at n w.computeds ≡ Some c) = finder (suc (length w.computeds)) n h in
          let whole : count_of (λ m. true) w.computeds ≤ finders (length w.computeds) = omega (arith, all, count-all w.computeds) in
          count-same (found_below test (length w.computeds) k) (λ m. true) (λ m e. refl) w.computeds whole n c.0 c.1 refl
    ]

    far_enough : (far n : ℕ) → found_below test far k n ≡ true → found_below test (length w.computeds) k n ≡ true
    far_enough zero n h = cc
    far_enough (suc far) n h =
        over_at_last n
        (some_weaker (λ m. test m || found_below test far k m) (λ m. test m || found_below test (length w.computeds) k m)
        (λ m. or_weaker (test m) (found_below test far k m) (found_below test (length w.computeds) k m) (far_enough far m)) (sources_of k n) h)

  -- what the search finds is kept below
  found : (far n : ℕ) → found_below test far k n ≡ true → HasBelow test k n
  found zero n h = cc
  found (suc far) n h =
      let s : (m : ℕ) × ((keeps k n m ≡ true) × ((test m || found_below test far k m) ≡ true)) =
      some_found (λ m. test m || found_below test far k m) (sources_of k n) h in
      elim (either (test s.0) (found_below test far k s.0) s.1.1) [
        | inl here ↦ record { name = s.0; below = kept s.1.0; passes = here }
        | inr deep ↦
            let r : HasBelow test k s.0 = found far s.0 deep in
            record { name = r.name; below = kept_below s.1.0 r.below; passes = r.passes }
      ]

  -- and what is kept below is found in some number of steps
  finds : {n m : ℕ} → IsBelow k n m → test m ≡ true → (far : ℕ) × (found_below test far k n ≡ true)
  finds {n} {m} (kept e) h =
      (1, some_at (λ j. test j || found_below test 0 k j) (sources_of k n) m e (or_left (test m) (found_below test 0 k m) h))
  finds {n} {m} (kept_below {p = p} e below) h =
      let r : (far : ℕ) × (found_below test far k p ≡ true) = finds below h in
      (suc r.0, some_at (λ j. test j || found_below test r.0 k j) (sources_of k n) p e (or_right (test p) (found_below test r.0 k p) r.1))

pub search_law : SearchLaw
search_law test w k far n only h = far_enough test w k only far n h

pub below_law : BelowLaw
below_law test w k n only = record {
  found = λ h. found test w k (length w.computeds) n h;
  finds = λ d. let r : (far : ℕ) × (found_below test far k n ≡ true) = finds test w k d.below d.passes in far_enough test w k only r.0 n r.1;
}

pub mark_law : MarkLaw
mark_law w k n mark only = (
  is (must_run k n []) (due_below (length w.computeds) w k n) refl refl,
  one mark (must_run k n []) (due_below (length w.computeds) w k n) refl refl,
)
  where
    search : Searches (is_due w k) w k n
    search = below_law (is_due w k) w k n only

    is : (a b : Bool) → must_run k n [] ≡ a → due_below (length w.computeds) w k n ≡ b → IsMark w k n (cond a Dirty (cond b Checked Clean))
    is true b e f = e
    is false true e f = (e, search.found f)
    is false false e f = (
      e,
      λ m below. elim (tested (is_due w k m)) [
        | inr off ↦ off
        | inl due ↦ cc (sym f ∙ search.finds (record { name = m; below = below; passes = due }))
      ],
    )

    one : (mark : Mark) (a b : Bool) → must_run k n [] ≡ a → due_below (length w.computeds) w k n ≡ b → IsMark w k n mark →
        mark ≡ cond a Dirty (cond b Checked Clean)
    one Dirty true b e f i = refl
    one Dirty false b e f i = cc (sym e ∙ i)
    one Checked true b e f i = cc (sym e ∙ i.0)
    one Checked false true e f i = refl
    one Checked false false e f i = cc (sym f ∙ search.finds i.1)
    one Clean true b e f i = cc (sym e ∙ i.0)
    one Clean false true e f i = let d : HasBelow (is_due w k) k n = search.found f in cc (sym (i.1 d.name d.below) ∙ d.passes)
    one Clean false false e f i = refl
