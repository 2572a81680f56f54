-- What a formula answers to the values known so far: the first slot that it needs, its value, or a fault.
use Rattle.std.specs.Prelude.{ℕ, ℤ, pos, negsuc, int_div, int_rem, ◌+◌, ◌+ℤ◌, ◌-ℤ◌, ◌*ℤ◌, ◌^◌, ◌==◌, Bool, true, false, not, List, [], ◌∷◌, ◌++◌, Option, Some, None, option_map, option_and_then, length, nat_le, nat_lt, if◌then◌else◌}
use Rattle.std.specs.Bool.{beq}
use Rattle.std.specs.List.{position, slice_get}
use Rattle.std.specs.Option.{option_or}
use Rattle.std.specs.Cmp.Lexicographic.{slice_cmp}
use Rattle.std.specs.Ordering.{int_cmp, int_eq, nat_cmp, is_lt, is_le, is_gt, is_ge}
use Rattle.std.specs.Str.{bytes_eq}
use Rattle.std.specs.declared.cmp.Ordering.{Ordering}
use Rattle.sig_base.specs.Tables.{Table, marked}
use Rattle.sig_base.specs.Values.{scalar_value, shown}
use Rattle.sig_base.specs.declared.rows.Row.{Row}
use Rattle.sig_base.specs.declared.scalar.Scalar.{Scalar}
use Rattle.sig_base.specs.declared.scalar.Scalar.TheVariants as scalar
use Rattle.sig_base.specs.declared.limits.TheConstants.{MOST_TEXT}
use Rattle.sig_base.specs.declared.value.Value.{Value}
use Rattle.sig_base.specs.declared.value.Value.TheVariants as value
use Rattle.sig_base.specs.declared.value.Fault.TheVariants.{Overflow, Zero, Kind, Long, Absent}
use Rattle.sig_base.specs.declared.value.Known.{Known}
use Rattle.sig_base.specs.declared.value.Outcome.{Outcome}
use Rattle.sig_base.specs.declared.value.Outcome.TheVariants.{Good, Bad}
use Rattle.sig_base.specs.declared.value.Step.{Step}
use Rattle.sig_base.specs.declared.value.Step.TheVariants.{Read, Done, Fail}
use Rattle.sig_formula.specs.declared.formula.BinOp.{BinOp}
use Rattle.sig_formula.specs.declared.formula.BinOp.TheVariants as op
use Rattle.sig_formula.specs.declared.formula.RowRef.{RowRef}
use Rattle.sig_formula.specs.declared.evaluate.FormulaStep.{FormulaStep}
use Rattle.sig_formula.specs.declared.evaluate.FormulaStep.TheVariants.{Ask, End}
use Rattle.sig_formula.specs.Trees.{Tree, literal, slot, row_field, row_key, negation, binary, choice, count_of, sum_of, rows_where, untracked}

-- the value of a slot, where it is known
abbrev pub known_at : ℕ → List Known → Option Value
known_at n [] = None
known_at n (k ∷ ks) = if k.slot == n then Some k.value else known_at n ks

-- a truth, and no other kind
abbrev pub truth : Value → Outcome
truth (value.Bool b) = Good (value.Bool b)
truth _ = Bad Kind

-- the other truth
abbrev pub negated : Value → Outcome
negated (value.Bool b) = Good (value.Bool (not b))
negated _ = Bad Kind

-- what the left operand decides alone: that of `or` and `and` must be a truth
abbrev pub decided : BinOp → Value → Option Outcome
decided op.Or (value.Bool true) = Some (Good (value.Bool true))
decided op.Or (value.Bool false) = None
decided op.Or _ = Some (Bad Kind)
decided op.And (value.Bool true) = None
decided op.And (value.Bool false) = Some (Good (value.Bool false))
decided op.And _ = Some (Bad Kind)
decided _ _ = None

-- whether two scalars of one kind are equal
abbrev pub equality : Value → Value → Option Bool
equality (value.Bool p) (value.Bool q) = Some (beq p q)
equality (value.Int m) (value.Int n) = Some (int_eq m n)
equality (value.Text s) (value.Text t) = Some (bytes_eq s t)
equality _ _ = None

-- how two whole numbers, or two texts by their bytes, are ordered
abbrev pub order : Value → Value → Option Ordering
order (value.Int m) (value.Int n) = Some (int_cmp m n)
order (value.Text s) (value.Text t) = Some (slice_cmp nat_cmp s t)
order _ _ = None

-- the answer of a comparison; operands that it doesn't compare are of the wrong kind
abbrev pub compared : Option Bool → Outcome
compared None = Bad Kind
compared (Some b) = Good (value.Bool b)

-- a text, which is long where it has more than `MOST_TEXT` bytes
abbrev pub text_outcome : List ℕ → Outcome
text_outcome t = if nat_le (length t) MOST_TEXT then Good (value.Text t) else Bad Long

-- two shown texts, one after the other
abbrev pub joined_texts : Option (List ℕ) → Option (List ℕ) → Outcome
joined_texts (Some s) (Some t) = text_outcome (s ++ t)
joined_texts _ _ = Bad Kind

-- whether a whole number has 64 bits
abbrev pub fits_i64 : ℤ → Bool
fits_i64 (pos n) = nat_lt n (2 ^ 63)
fits_i64 (negsuc n) = nat_lt n (2 ^ 63)

-- a whole number, which must have 64 bits
abbrev pub number_outcome : ℤ → Outcome
number_outcome n = if fits_i64 n then Good (value.Int n) else Bad Overflow

-- division truncates towards zero, and the remainder has the sign of the dividend
abbrev pub calculated : BinOp → ℤ → ℤ → Outcome
calculated op.Add m n = number_outcome (m +ℤ n)
calculated op.Sub m n = number_outcome (m -ℤ n)
calculated op.Mul m n = number_outcome (m *ℤ n)
calculated op.Div m n = if int_eq n (pos 0) then Bad Zero else number_outcome (int_div m n)
calculated op.Rem m n = if int_eq n (pos 0) then Bad Zero else Good (value.Int (int_rem m n))
calculated _ m n = Bad Kind

-- the same of two values, which must be whole numbers
abbrev pub calculation : BinOp → Value → Value → Outcome
calculation o (value.Int m) (value.Int n) = calculated o m n
calculation o _ _ = Bad Kind

-- what an operator makes of two operands
abbrev pub operated : BinOp → Value → Value → Outcome
operated op.Or v w = truth w
operated op.And v w = truth w
operated op.Eq v w = compared (equality v w)
operated op.Ne v w = compared (option_map not (equality v w))
operated op.Lt v w = compared (option_map is_lt (order v w))
operated op.Le v w = compared (option_map is_le (order v w))
operated op.Gt v w = compared (option_map is_gt (order v w))
operated op.Ge v w = compared (option_map is_ge (order v w))
operated op.Join v w = joined_texts (shown v) (shown w)
operated o v w = calculation o v w

-- ---- formulas

-- goes on with a value; a slot that is needed or a fault ends the formula
abbrev pub with_value : FormulaStep → (Value → FormulaStep) → FormulaStep
with_value (Ask s tracked) go = Ask s tracked
with_value (End (Good v)) go = go v
with_value (End (Bad e)) go = End (Bad e)

-- what the left operand decided, or else what the right one comes to
abbrev pub unless_decided : Option Outcome → FormulaStep → FormulaStep
unless_decided (Some o) other = End o
unless_decided None other = other

-- one of two, by a truth
abbrev pub chosen : Value → FormulaStep → FormulaStep → FormulaStep
chosen (value.Bool b) x y = if b then x else y
chosen _ x y = End (Bad Kind)

-- a tracked read is served by tracked reads alone, an untracked one by either
abbrev pub served : Bool → ℕ → List Known → List Known → Option Value
served true n ts us = known_at n ts
served false n ts us = option_or (known_at n ts) (known_at n us)

-- a slot that isn't known is asked for
abbrev pub slot_step : Bool → ℕ → Option Value → FormulaStep
slot_step tracking n None = Ask n tracking
slot_step tracking n (Some v) = End (Good v)

-- ---- rows

-- the value of the field with a name
abbrev pub value_under : List ℕ → List (List ℕ) → List Scalar → Option Scalar
value_under f fields values = option_and_then (λ (at : ℕ). slice_get values at) (position (λ g. bytes_eq g f) fields)

-- the row at a place
abbrev pub row_at : Table → ℕ → Option RowRef
row_at t n = Some (record { rows = t; place = n })

-- a scalar, which is absent where there is none
abbrev pub present : Option Scalar → Outcome
present None = Bad Absent
present (Some s) = Good (scalar_value s)

-- the field of a row; it is absent where the rows have no field of this name
abbrev pub field_outcome : List ℕ → Option RowRef → Outcome
field_outcome f None = Bad Absent
field_outcome f (Some r) = present (option_and_then (λ (x : Row). value_under f r.rows.fields x.values) (slice_get r.rows.rows r.place))

-- the key of a row
abbrev pub key_outcome : Option RowRef → Outcome
key_outcome None = Bad Absent
key_outcome (Some r) = present (option_map (λ (x : Row). scalar.Text x.key) (slice_get r.rows.rows r.place))

-- how many rows there are
abbrev pub count_outcome : Value → Outcome
count_outcome (value.Rows t) = Good (value.Int (pos (length t.rows)))
count_outcome _ = Bad Kind

-- goes on with rows; a value of another kind ends the formula
abbrev pub with_rows : Value → (Table → FormulaStep) → FormulaStep
with_rows (value.Rows t) go = go t
with_rows _ go = End (Bad Kind)

-- goes on with a truth; a value of another kind ends the formula
abbrev pub with_truth : Value → (Bool → FormulaStep) → FormulaStep
with_truth (value.Bool b) go = go b
with_truth _ go = End (Bad Kind)

-- The parts of the rows from a place on, added one after the other to the sum so far: each is evaluated, has to be a whole number and is
-- added before the next row's.
abbrev pub sum_from : (ℕ → FormulaStep) → Value → ℕ → List Row → FormulaStep
sum_from part sum at [] = End (Good sum)
sum_from part sum at (r ∷ rs) = with_value (part at) (λ v. with_value (End (calculation op.Add sum v)) (λ next. sum_from part next (at + 1) rs))

-- The rows whose test is true, by the marks so far and the tests from a place on: each is evaluated and has to be a truth before the next
-- row's.
abbrev pub kept_from : (ℕ → FormulaStep) → Table → List Bool → ℕ → List Row → FormulaStep
kept_from test t marks at [] = End (Good (value.Rows (record { fields = t.fields; rows = marked marks t.rows })))
kept_from test t marks at (r ∷ rs) = with_value (test at) (λ v. with_truth v (λ b. kept_from test t (marks ++ b ∷ []) (at + 1) rs))

-- What a formula answers, by the row that it speaks of and by what was read so far, tracked and untracked. Operands are evaluated from left
-- to right, the right one of `or` and `and` only where the left doesn't decide, and of a choice one branch. The second part of `sum` and
-- `keep` speaks of each of the rows in turn. What stands in `untrack` is read untracked.
abbrev pub formula_step : Bool → Tree → Option RowRef → List Known → List Known → FormulaStep
formula_step tracking (literal s) row ts us = End (Good (scalar_value s))
formula_step tracking (slot n) row ts us = slot_step tracking n (served tracking n ts us)
formula_step tracking (row_field f) row ts us = End (field_outcome f row)
formula_step tracking row_key row ts us = End (key_outcome row)
formula_step tracking (negation a) row ts us = with_value (formula_step tracking a row ts us) (λ v. End (negated v))
formula_step tracking (binary o a b) row ts us =
    with_value (formula_step tracking a row ts us)
    (λ v. unless_decided (decided o v) (with_value (formula_step tracking b row ts us) (λ w. End (operated o v w))))
formula_step tracking (choice t a b) row ts us =
    with_value (formula_step tracking t row ts us) (λ v. chosen v (formula_step tracking a row ts us) (formula_step tracking b row ts us))
formula_step tracking (count_of a) row ts us = with_value (formula_step tracking a row ts us) (λ v. End (count_outcome v))
formula_step tracking (sum_of a b) row ts us =
    with_value (formula_step tracking a row ts us)
    (λ v. with_rows v (λ t. sum_from (λ n. formula_step tracking b (row_at t n) ts us) (value.Int (pos 0)) 0 t.rows))
formula_step tracking (rows_where a b) row ts us =
    with_value (formula_step tracking a row ts us)
    (λ v. with_rows v (λ t. kept_from (λ n. formula_step tracking b (row_at t n) ts us) t [] 0 t.rows))
formula_step tracking (untracked a) row ts us = formula_step false a row ts us

-- a step without the word on tracking
abbrev pub plain_step : FormulaStep → Step
plain_step (Ask s tracked) = Read s
plain_step (End (Good v)) = Done v
plain_step (End (Bad e)) = Fail e

-- the parts of rows, added up: a part speaks of each row in turn
abbrev pub sum_step : Bool → Table → Tree → List Known → List Known → FormulaStep
sum_step tracking t b ts us = sum_from (λ n. formula_step tracking b (row_at t n) ts us) (value.Int (pos 0)) 0 t.rows

-- the rows that are kept: a test speaks of each row in turn
abbrev pub keep_step : Bool → Table → Tree → List Known → List Known → FormulaStep
keep_step tracking t b ts us = kept_from (λ n. formula_step tracking b (row_at t n) ts us) t [] 0 t.rows

-- the answer of a formula where nothing is tracked apart, by the row that it speaks of and the values of slots that are known
abbrev pub answer_of : Tree → Option RowRef → List Known → Step
answer_of t row known = plain_step (formula_step false t row known [])

-- a step by the slot that is asked for; where none is, by what a formula comes to
abbrev pub step_by : Option ℕ → Outcome → Step
step_by (Some n) o = Read n
step_by None (Good v) = Done v
step_by None (Bad e) = Fail e
