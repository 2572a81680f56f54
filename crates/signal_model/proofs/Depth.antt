-- A value by its cases, with no bound on the depth.
use Rattle.std.proofs.Common.{◌⊎◌, inl, inr, ◌≡◌, ℕ, suc, ◌==◌, Bool, true, false, cond, List, [], ◌∷◌, Option, Some, None, refl, sym, ap, ◌∙◌, arith}
use Rattle.std.proofs.lemmas.Bool.{eqb-true, eq-eqb}
use Rattle.std.proofs.lemmas.Bool.Decides.{nat_tests}
use Rattle.signal_model.specs.Signals.{Signals, Computed, Cell, Stands, IsGone, IsCell, IsComputed, is_in, computed_at, cell_at, or_computed}
use Rattle.signal_model.specs.Signals.{standing}
use Rattle.signal_model.specs.Values.{value_within, value_case, asked_from, evaluated, names_left}
use Rattle.signal_model.specs.Laws.{ValueByCases}

-- a test at a head
pub chosen : {A : Type 0} (b : Bool) (x : A) (o : Option A) (c : A) → cond b (Some x) o ≡ Some c →
    ((b ≡ true) × (x ≡ c)) ⊎ ((b ≡ false) × (o ≡ Some c))
chosen true x o c h = inl (refl, cc)
chosen false x o c h = inr (refl, h)

none_chosen : {A : Type 0} (b : Bool) (x : A) (o : Option A) → cond b (Some x) o ≡ None → (b ≡ false) × (o ≡ None)
none_chosen true x o h = cc
none_chosen false x o h = (refl, h)

pub computed_at-name : (n : ℕ) (cs : List Computed) (c : Computed) → computed_at n cs ≡ Some c → n ≡ c.name
computed_at-name n [] c h = cc
computed_at-name n (d ∷ ds) c h =
    elim (chosen (n == d.name) d (computed_at n ds) c h) [
      | inl here ↦ eqb-true n d.name here.0 ∙ ap (λ (x : Computed). x.name) here.1
      | inr there ↦ computed_at-name n ds c there.1
    ]

-- what has another name counts as before
left-other : (n : ℕ) (cs : List Computed) (path : List ℕ) → computed_at n cs ≡ None → names_left cs (n ∷ path) ≡ names_left cs path
left-other n [] path h = refl
left-other n (d ∷ ds) path h =
    let e : (n == d.name ≡ false) × (computed_at n ds ≡ None) = none_chosen (n == d.name) d (computed_at n ds) h in
    let r : names_left ds (n ∷ path) ≡ names_left ds path = left-other n ds path e.1 in
    let f : (d.name == n) ≡ false = grind (arith, nat_tests) in
    rw (f, r) refl

-- one name fewer is left where the name of a computed comes onto the path
pub left-here : (n : ℕ) (cs : List Computed) (path : List ℕ) (c : Computed) → computed_at n cs ≡ Some c → is_in n path ≡ false →
    names_left cs path ≡ suc (names_left cs (n ∷ path))
left-here n [] path c h off = cc
left-here n (d ∷ ds) path c h off =
    elim (chosen (n == d.name) d (computed_at n ds) c h) [
      | inl here ↦ again (eqb-true n d.name here.0) (computed_at n ds) refl (λ x k. left-here n ds path x k off)
      | inr there ↦
          let r : names_left ds path ≡ suc (names_left ds (n ∷ path)) = left-here n ds path c there.1 off in
          let f : (d.name == n) ≡ false = grind (arith, nat_tests) in
          rw (f, r) (omega arith)
    ]
  where
    again : n ≡ d.name → (o : Option Computed) → computed_at n ds ≡ o →
        ((x : Computed) → computed_at n ds ≡ Some x → names_left ds path ≡ suc (names_left ds (n ∷ path))) →
        names_left (d ∷ ds) path ≡ suc (names_left (d ∷ ds) (n ∷ path))
    again e None new below =
        let r : names_left ds (n ∷ path) ≡ names_left ds path = left-other n ds path new in
        let f : (d.name == n) ≡ true = eq-eqb d.name n (sym e) in
        let g : is_in d.name path ≡ false = rw (← e) off in
        let k : computed_at d.name ds ≡ None = ap (λ m. computed_at m ds) (sym e) ∙ new in
        rw (f, r, g, k) (omega arith)
    again e (Some x) old below =
        let r : names_left ds path ≡ suc (names_left ds (n ∷ path)) = below x old in
        let f : (d.name == n) ≡ true = eq-eqb d.name n (sym e) in
        let g : is_in d.name path ≡ false = rw (← e) off in
        let k : computed_at d.name ds ≡ Some x = ap (λ m. computed_at m ds) (sym e) ∙ old in
        rw (f, r, g, k) (omega arith)

-- what stands as a computed is the computed of that name
pub stands-computed : (w : Signals) (n : ℕ) (c : Computed) → standing w n ≡ IsComputed c → computed_at n w.computeds ≡ Some c
stands-computed w n c h = go (cell_at n w.cells) (computed_at n w.computeds) h
  where
    go : (x : Option Cell) (y : Option Computed) → or_computed x y ≡ IsComputed c → y ≡ Some c
    go (Some x) y k = cc
    go None None k = cc
    go None (Some y) k = cc

pub value_by_cases : ValueByCases
value_by_cases hosts w n path = go (standing w n) (is_in n path) refl refl
  where
    go : (s : Stands) (b : Bool) → standing w n ≡ s → is_in n path ≡ b →
        value_case s b (λ c. (asked_from hosts c.recipe (λ m. value_within (names_left w.computeds path) hosts w m (n ∷ path)) []).outcome)
        ≡ value_case s b (λ c. (evaluated hosts w c path).outcome)
    go IsGone b e off = refl
    go (IsCell c) b e off = refl
    go (IsComputed c) true e off = refl
    go (IsComputed c) false e off =
        let at : computed_at n w.computeds ≡ Some c = stands-computed w n c e in
        let k : names_left w.computeds path ≡ suc (names_left w.computeds (n ∷ path)) = left-here n w.computeds path c at off in
        let name : n ≡ c.name = computed_at-name n w.computeds c at in
        rw (k, name) refl
