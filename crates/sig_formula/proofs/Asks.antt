-- A formula asks only for slots of its own that aren't known.
use Rattle.std.proofs.Common.{◌≡◌, ◌⊎◌, ◌||◌, ◌+◌, ◌++◌, ℕ, pos, Bool, true, false, List, [], ◌∷◌, Option, Some, None, inl, inr, refl}
use Rattle.std.specs.Option.{option_or}
use Rattle.std.proofs.lemmas.Bool.{or_left, or_right}
use Rattle.std.proofs.lemmas.Bool.Decides.{Decides-eqb}
use Rattle.sig_base.specs.Tables.{Table}
use Rattle.sig_base.specs.declared.rows.Row.{Row}
use Rattle.sig_base.specs.declared.value.Value.{Value}
use Rattle.sig_base.specs.declared.value.Value.TheVariants as value
use Rattle.sig_base.specs.declared.value.Known.{Known}
use Rattle.sig_base.specs.declared.value.Outcome.{Outcome}
use Rattle.sig_base.specs.declared.value.Outcome.TheVariants.{Good, Bad}
use Rattle.sig_base.specs.declared.value.Step.TheVariants.{Read}
use Rattle.sig_formula.specs.declared.evaluate.FormulaStep.{FormulaStep}
use Rattle.sig_formula.specs.declared.evaluate.FormulaStep.TheVariants.{Ask, End}
use Rattle.sig_formula.specs.declared.formula.BinOp.TheVariants.{Add}
use Rattle.sig_formula.specs.Evaluation.{calculation, chosen, count_outcome, decided, formula_step, keep_step, kept_from, known_at, negated, operated, plain_step}
use Rattle.sig_formula.specs.Evaluation.{row_at, served, slot_step, sum_from, sum_step, unless_decided, with_rows, with_truth, with_value}
use Rattle.sig_formula.specs.Laws.{AsksAskable, FormulaAsks, IsAskable}
use Rattle.sig_formula.specs.Trees.{Tree, literal, slot, row_field, row_key, negation, binary, choice, count_of, sum_of, rows_where, untracked, has_slot}

-- a step that goes on asks for a slot before, or once it has a value
going-on : (s : FormulaStep) (go : Value → FormulaStep) (n : ℕ) (b : Bool) → with_value s go ≡ Ask n b →
    (s ≡ Ask n b) ⊎ ((v : Value) × (go v ≡ Ask n b))
going-on (Ask m a) go n b h = inl h
going-on (End (Good v)) go n b h = inr (v, h)
going-on (End (Bad e)) go n b h = inl h

asked-slot : (a : Bool) (m : ℕ) (o : Option Value) (n : ℕ) (b : Bool) → slot_step a m o ≡ Ask n b → (o ≡ None) × (m ≡ n) × (a ≡ b)
asked-slot a m None n b h = (refl, cc, cc)
asked-slot a m (Some v) n b h = absurd (cc)

-- what the left operand decides asks for nothing
undecided : (o : Option Outcome) (s : FormulaStep) (n : ℕ) (b : Bool) → unless_decided o s ≡ Ask n b → s ≡ Ask n b
undecided None s n b h = h
undecided (Some o) s n b h = absurd (cc)

branched : (v : Value) (x y : FormulaStep) (n : ℕ) (b : Bool) → chosen v x y ≡ Ask n b → (x ≡ Ask n b) ⊎ (y ≡ Ask n b)
branched (value.Bool true) x y n b h = inl h
branched (value.Bool false) x y n b h = inr h
branched _ x y n b h = absurd (cc)

-- the slot of a part is a slot of the whole
of_part : (a t : Tree) (found : Option Value) (n : ℕ) → IsAskable a found n → (has_slot n a ≡ true → has_slot n t ≡ true) → IsAskable t found n
of_part a t found n k f = record { unknown = k.unknown; own = f k.own }

-- the right operand asks, where the left doesn't decide
right_asks : (o : Option Outcome) (s : FormulaStep) (go : Value → Outcome) (n : ℕ) (b : Bool) →
    unless_decided o (with_value s (λ w. End (go w))) ≡ Ask n b → s ≡ Ask n b
right_asks o s go n b h = elim (going-on s (λ w. End (go w)) n b (undecided o (with_value s (λ w. End (go w))) n b h)) [
  | inl e ↦ e
  | inr p ↦ absurd (no p.0 p.1)
]
  where
    no : (w : Value) → End (go w) ≡ Ask n b → ⊥
    no w e = cc

-- sums ask for what one of their parts asks for
sum_asks : (part : ℕ → FormulaStep) (sum : Value) (at : ℕ) (rs : List Row) (n : ℕ) (b : Bool) → sum_from part sum at rs ≡ Ask n b →
    (k : ℕ) × (part k ≡ Ask n b)
sum_asks part sum at [] n b h = absurd (cc)
sum_asks part sum at (r ∷ rs) n b h =
    elim (going-on (part at) (λ v. with_value (End (calculation Add sum v)) (λ next. sum_from part next (at + 1) rs)) n b h) [
      | inl e ↦ (at, e)
      | inr p ↦ elim (going-on (End (calculation Add sum p.0)) (λ next. sum_from part next (at + 1) rs) n b p.1) [
        | inl e ↦ absurd (cc)
        | inr q ↦ sum_asks part q.0 (at + 1) rs n b q.1
      ]
    ]

truth_asks : (v : Value) (go : Bool → FormulaStep) (n : ℕ) (b : Bool) → with_truth v go ≡ Ask n b → (c : Bool) × (go c ≡ Ask n b)
truth_asks (value.Bool c) go n b h = (c, h)
truth_asks _ go n b h = absurd (cc)

-- what is kept asks for what one of the tests asks for
kept_asks : (test : ℕ → FormulaStep) (t : Table) (marks : List Bool) (at : ℕ) (rs : List Row) (n : ℕ) (b : Bool) →
    kept_from test t marks at rs ≡ Ask n b → (k : ℕ) × (test k ≡ Ask n b)
kept_asks test t marks at [] n b h = absurd (cc)
kept_asks test t marks at (r ∷ rs) n b h =
    elim (going-on (test at) (λ v. with_truth v (λ c. kept_from test t (marks ++ c ∷ []) (at + 1) rs)) n b h) [
      | inl e ↦ (at, e)
      | inr p ↦
          let q : (c : Bool) × (kept_from test t (marks ++ c ∷ []) (at + 1) rs ≡ Ask n b)
          = truth_asks p.0 (λ c. kept_from test t (marks ++ c ∷ []) (at + 1) rs) n b p.1 in
          kept_asks test t (marks ++ q.0 ∷ []) (at + 1) rs n b q.1
    ]

rows_ask : (v : Value) (go : Table → FormulaStep) (n : ℕ) (b : Bool) → with_rows v go ≡ Ask n b → (t : Table) × (go t ≡ Ask n b)
rows_ask (value.Rows t) go n b h = (t, h)
rows_ask _ go n b h = absurd (cc)

pub formula_asks : FormulaAsks
formula_asks tracking (literal s) row ts us n b h = absurd (cc)
formula_asks tracking (slot m) row ts us n b h =
    let p : (served tracking m ts us ≡ None) × (m ≡ n) × (tracking ≡ b) = asked-slot tracking m (served tracking m ts us) n b h in
    record { unknown = rw (← p.2, ← p.1) p.0; own = rw p.1 ((Decides-eqb n n).1 refl) }
formula_asks tracking (row_field f) row ts us n b h = absurd (cc)
formula_asks tracking row_key row ts us n b h = absurd (cc)
formula_asks tracking (negation a) row ts us n b h =
    elim (going-on (formula_step tracking a row ts us) (λ v. End (negated v)) n b h) [
      | inl e ↦ of_part a (negation a) (served b n ts us) n (formula_asks tracking a row ts us n b e) (λ k. k)
      | inr p ↦ absurd (no p.0 p.1)
    ]
  where
    no : (w : Value) → End (negated w) ≡ Ask n b → ⊥
    no w e = cc
formula_asks tracking (binary o x y) row ts us n b h =
    elim (going-on (formula_step tracking x row ts us)
    (λ v. unless_decided (decided o v) (with_value (formula_step tracking y row ts us) (λ w. End (operated o v w)))) n b h) [
      | inl e ↦ of_part x (binary o x y) (served b n ts us) n (formula_asks tracking x row ts us n b e) (or_left (has_slot n x) (has_slot n y))
      | inr p ↦
          let e : formula_step tracking y row ts us ≡ Ask n b
          = right_asks (decided o p.0) (formula_step tracking y row ts us) (operated o p.0) n b p.1 in
          of_part y (binary o x y) (served b n ts us) n (formula_asks tracking y row ts us n b e) (or_right (has_slot n x) (has_slot n y))
    ]
formula_asks tracking (choice t x y) row ts us n b h =
    elim (going-on (formula_step tracking t row ts us) (λ v. chosen v (formula_step tracking x row ts us) (formula_step tracking y row ts us)) n b h) [
      | inl e ↦ of_part t (choice t x y) (served b n ts us) n (formula_asks tracking t row ts us n b e)
          (or_left (has_slot n t) (has_slot n x || has_slot n y))
      | inr p ↦ elim (branched p.0 (formula_step tracking x row ts us) (formula_step tracking y row ts us) n b p.1) [
        | inl e ↦ of_part x (choice t x y) (served b n ts us) n (formula_asks tracking x row ts us n b e)
            (λ k. or_right (has_slot n t) (has_slot n x || has_slot n y) (or_left (has_slot n x) (has_slot n y) k))
        | inr e ↦ of_part y (choice t x y) (served b n ts us) n (formula_asks tracking y row ts us n b e)
            (λ k. or_right (has_slot n t) (has_slot n x || has_slot n y) (or_right (has_slot n x) (has_slot n y) k))
      ]
    ]
formula_asks tracking (count_of a) row ts us n b h =
    elim (going-on (formula_step tracking a row ts us) (λ v. End (count_outcome v)) n b h) [
      | inl e ↦ of_part a (count_of a) (served b n ts us) n (formula_asks tracking a row ts us n b e) (λ k. k)
      | inr p ↦ absurd (no p.0 p.1)
    ]
  where
    no : (w : Value) → End (count_outcome w) ≡ Ask n b → ⊥
    no w e = cc
formula_asks tracking (sum_of x y) row ts us n b h =
    elim (going-on (formula_step tracking x row ts us) (λ v. with_rows v (λ t. sum_step tracking t y ts us)) n b h) [
      | inl e ↦ of_part x (sum_of x y) (served b n ts us) n (formula_asks tracking x row ts us n b e) (or_left (has_slot n x) (has_slot n y))
      | inr p ↦
          let q : (t : Table) × (sum_step tracking t y ts us ≡ Ask n b)
          = rows_ask p.0 (λ t. sum_step tracking t y ts us) n b p.1 in
          let r = sum_asks (λ k. formula_step tracking y (row_at q.0 k) ts us) (value.Int (pos 0)) 0 q.0.rows n b q.1 in
          of_part y (sum_of x y) (served b n ts us) n (formula_asks tracking y (row_at q.0 r.0) ts us n b r.1) (or_right (has_slot n x) (has_slot n y))
    ]
formula_asks tracking (rows_where x y) row ts us n b h =
    elim (going-on (formula_step tracking x row ts us) (λ v. with_rows v (λ t. keep_step tracking t y ts us)) n b h) [
      | inl e ↦ of_part x (rows_where x y) (served b n ts us) n (formula_asks tracking x row ts us n b e)
          (or_left (has_slot n x) (has_slot n y))
      | inr p ↦
          let q : (t : Table) × (keep_step tracking t y ts us ≡ Ask n b)
          = rows_ask p.0 (λ t. keep_step tracking t y ts us) n b p.1 in
          let r = kept_asks (λ k. formula_step tracking y (row_at q.0 k) ts us) q.0 [] 0 q.0.rows n b q.1 in
          of_part y (rows_where x y) (served b n ts us) n (formula_asks tracking y (row_at q.0 r.0) ts us n b r.1)
          (or_right (has_slot n x) (has_slot n y))
    ]
formula_asks tracking (untracked a) row ts us n b h =
    of_part a (untracked a) (served b n ts us) n (formula_asks false a row ts us n b h) (λ k. k)

-- what a plain step reads, tracked or not
read_step : (s : FormulaStep) (n : ℕ) → plain_step s ≡ Read n → (b : Bool) × (s ≡ Ask n b)
read_step (Ask m b) n h = (b, cc)
read_step (End (Good v)) n h = absurd (cc)
read_step (End (Bad e)) n h = absurd (cc)

-- where nothing is tracked apart, what isn't served isn't known
unserved : (b : Bool) (n : ℕ) (known : List Known) → served b n known [] ≡ None → known_at n known ≡ None
unserved true n known h = h
unserved false n known h = go (known_at n known) h
  where
    go : (o : Option Value) → option_or o None ≡ None → o ≡ None
    go None h = refl
    go (Some v) h = cc

pub asks_askable : AsksAskable
asks_askable t row known n h =
    let p : (b : Bool) × (formula_step false t row known [] ≡ Ask n b) = read_step (formula_step false t row known []) n h in
    let k : IsAskable t (served p.0 n known []) n = formula_asks false t row known [] n p.0 p.1 in
    record { unknown = unserved p.0 n known k.unknown; own = k.own }
