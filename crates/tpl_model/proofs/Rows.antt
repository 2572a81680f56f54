-- Where the rows of the names are rows, so are those that a line's formula comes to.
use Rattle.std.proofs.Common.{ℕ, suc, ℤ, ◌+◌, Bool, true, false, subst, inl, inr, List, [], ◌∷◌, ◌++◌, ◌==◌, length, Option, Some, None}
use Rattle.std.specs.Option.{option_or}
use Rattle.std.specs.Prelude.{nat_le, pos, ◌+ℤ◌, ◌-ℤ◌, ◌*ℤ◌, int_div, option_map, not}
use Rattle.std.specs.Ordering.{int_eq, is_lt, is_le, is_gt, is_ge}
use Rattle.std.proofs.lemmas.Bool.{cases_Bool}
use Rattle.sig_base.proofs.Marks.{AreRows-marked}
use Rattle.sig_base.specs.Tables.{Table, AreRows}
use Rattle.sig_base.specs.Values.{scalar_value, shown}
use Rattle.sig_base.specs.declared.limits.TheConstants.{MOST_TEXT}
use Rattle.sig_base.specs.declared.rows.Row.{Row}
use Rattle.sig_base.specs.declared.scalar.Scalar.{Scalar}
use Rattle.sig_base.specs.declared.scalar.Scalar.TheVariants as scalar
use Rattle.sig_base.specs.declared.value.Value.{Value}
use Rattle.sig_base.specs.declared.value.Value.TheVariants as value
use Rattle.sig_base.specs.declared.value.Known.{Known}
use Rattle.sig_base.specs.declared.value.Outcome.TheVariants.{Good, Bad}
use Rattle.sig_formula.specs.declared.evaluate.FormulaStep.{FormulaStep}
use Rattle.sig_formula.specs.declared.evaluate.FormulaStep.TheVariants.{Ask, End}
use Rattle.sig_formula.specs.declared.formula.BinOp.{BinOp}
use Rattle.sig_formula.specs.declared.formula.BinOp.TheVariants as op
use Rattle.sig_formula.specs.declared.formula.RowRef.{RowRef}
use Rattle.sig_formula.specs.Trees.{Tree, literal, slot, row_field, row_key, negation, binary, choice, count_of, sum_of, rows_where, untracked}
use Rattle.sig_formula.specs.Evaluation.{answer_of, calculated, calculation, chosen, compared, count_outcome, decided, equality, field_outcome, fits_i64, formula_step, joined_texts, kept_from, key_outcome, known_at, negated, number_outcome, operated, order, plain_step, present, row_at, served, slot_step, sum_from, text_outcome, truth, unless_decided, with_rows, with_truth, with_value}
use Rattle.signal_model.specs.Recipes.{Recipe, no_hosts, formula}
use Rattle.signal_model.specs.Values.{unknown_slots}
use Rattle.sig_host.specs.Loans.{AreGood, IsGood, IsGoodOutcome, IsGoodStep, IsLending}
use Rattle.sig_host.proofs.Shared.{asked_good}
use Rattle.tpl_model.specs.Laws.{RowsLaw}

-- ---- one answer

-- where a formula's step is rows, these are rows
abbrev GoodEnd : FormulaStep → Type 0
GoodEnd (Ask n tracked) = Unit {0}
GoodEnd (End o) = IsGoodOutcome o

-- the same of one value, where it is there
abbrev GoodFound : Option Value → Type 0
GoodFound None = Unit {0}
GoodFound (Some v) = IsGood v

scalar_good : (s : Scalar) → IsGood (scalar_value s)
scalar_good (scalar.Bool b) = tt
scalar_good (scalar.Int n) = tt
scalar_good (scalar.Text t) = tt

found_good : (n : ℕ) (known : List Known) → AreGood known → GoodFound (known_at n known)
found_good n [] g = tt
found_good n (k ∷ ks) g = elim (cases_Bool (k.slot == n)) [
  | inl e ↦ rw e g.0
  | inr e ↦ rw e (found_good n ks g.1)
]

either_good : (x y : Option Value) → GoodFound x → GoodFound y → GoodFound (option_or x y)
either_good None y p q = q
either_good (Some v) y p q = p

served_good : (tracking : Bool) (n : ℕ) (ts us : List Known) → AreGood ts → AreGood us → GoodFound (served tracking n ts us)
served_good true n ts us g h = found_good n ts g
served_good false n ts us g h = either_good (known_at n ts) (known_at n us) (found_good n ts g) (found_good n us h)

slot_good : (tracking : Bool) (n : ℕ) (v : Option Value) → GoodFound v → GoodEnd (slot_step tracking n v)
slot_good tracking n None g = tt
slot_good tracking n (Some v) g = g

with_good : (s : FormulaStep) (go : Value → FormulaStep) → GoodEnd s → ((v : Value) → IsGood v → GoodEnd (go v)) →
    GoodEnd (with_value s go)
with_good (Ask n tracked) go g h = tt
with_good (End (Good v)) go g h = h v g
with_good (End (Bad e)) go g h = tt

truth_good : (v : Value) → IsGoodOutcome (truth v)
truth_good (value.Bool b) = tt
truth_good (value.Int n) = tt
truth_good (value.Text t) = tt
truth_good (value.Rows t) = tt

negated_good : (v : Value) → IsGoodOutcome (negated v)
negated_good (value.Bool b) = tt
negated_good (value.Int n) = tt
negated_good (value.Text t) = tt
negated_good (value.Rows t) = tt

chosen_good : (v : Value) (x y : FormulaStep) → GoodEnd x → GoodEnd y → GoodEnd (chosen v x y)
chosen_good (value.Bool true) x y p q = p
chosen_good (value.Bool false) x y p q = q
chosen_good (value.Int n) x y p q = tt
chosen_good (value.Text t) x y p q = tt
chosen_good (value.Rows t) x y p q = tt

decided_good : (o : BinOp) (v : Value) (s : FormulaStep) → GoodEnd s → GoodEnd (unless_decided (decided o v) s)
decided_good op.Or (value.Bool true) s h = tt
decided_good op.Or (value.Bool false) s h = h
decided_good op.Or (value.Int n) s h = tt
decided_good op.Or (value.Text t) s h = tt
decided_good op.Or (value.Rows t) s h = tt
decided_good op.And (value.Bool true) s h = h
decided_good op.And (value.Bool false) s h = tt
decided_good op.And (value.Int n) s h = tt
decided_good op.And (value.Text t) s h = tt
decided_good op.And (value.Rows t) s h = tt
decided_good _ v s h = h

compared_good : (b : Option Bool) → IsGoodOutcome (compared b)
compared_good None = tt
compared_good (Some b) = tt

text_good : (t : List ℕ) → IsGoodOutcome (text_outcome t)
text_good t = elim (cases_Bool (nat_le (length t) MOST_TEXT)) [ inl e ↦ rw e tt | inr e ↦ rw e tt ]

joined_good : (a b : Option (List ℕ)) → IsGoodOutcome (joined_texts a b)
joined_good None b = tt
joined_good (Some s) None = tt
joined_good (Some s) (Some t) = text_good (s ++ t)

number_good : (n : ℤ) → IsGoodOutcome (number_outcome n)
number_good n = elim (cases_Bool (fits_i64 n)) [ inl e ↦ rw e tt | inr e ↦ rw e tt ]

calculated_good : (o : BinOp) (m n : ℤ) → IsGoodOutcome (calculated o m n)
calculated_good op.Add m n = number_good (m +ℤ n)
calculated_good op.Sub m n = number_good (m -ℤ n)
calculated_good op.Mul m n = number_good (m *ℤ n)
calculated_good op.Div m n = elim (cases_Bool (int_eq n (pos 0))) [ inl e ↦ rw e tt | inr e ↦ rw e (number_good (int_div m n)) ]
calculated_good op.Rem m n = elim (cases_Bool (int_eq n (pos 0))) [ inl e ↦ rw e tt | inr e ↦ rw e tt ]
calculated_good _ m n = tt

calculation_good : (o : BinOp) (v w : Value) → IsGoodOutcome (calculation o v w)
calculation_good o (value.Int m) (value.Int n) = calculated_good o m n
calculation_good o (value.Int m) (value.Bool b) = tt
calculation_good o (value.Int m) (value.Text t) = tt
calculation_good o (value.Int m) (value.Rows t) = tt
calculation_good o (value.Bool b) w = tt
calculation_good o (value.Text t) w = tt
calculation_good o (value.Rows t) w = tt

operated_good : (o : BinOp) (v w : Value) → IsGoodOutcome (operated o v w)
operated_good op.Or v w = truth_good w
operated_good op.And v w = truth_good w
operated_good op.Eq v w = compared_good (equality v w)
operated_good op.Ne v w = compared_good (option_map not (equality v w))
operated_good op.Lt v w = compared_good (option_map is_lt (order v w))
operated_good op.Le v w = compared_good (option_map is_le (order v w))
operated_good op.Gt v w = compared_good (option_map is_gt (order v w))
operated_good op.Ge v w = compared_good (option_map is_ge (order v w))
operated_good op.Join v w = joined_good (shown v) (shown w)
operated_good op.Add v w = calculation_good op.Add v w
operated_good op.Sub v w = calculation_good op.Sub v w
operated_good op.Mul v w = calculation_good op.Mul v w
operated_good op.Div v w = calculation_good op.Div v w
operated_good op.Rem v w = calculation_good op.Rem v w

-- ---- rows

present_good : (s : Option Scalar) → IsGoodOutcome (present s)
present_good None = tt
present_good (Some s) = scalar_good s

field_good : (f : List ℕ) (row : Option RowRef) → IsGoodOutcome (field_outcome f row)
field_good f None = tt
field_good f (Some r) = present_good _

key_good : (row : Option RowRef) → IsGoodOutcome (key_outcome row)
key_good None = tt
key_good (Some r) = present_good _

count_good : (v : Value) → IsGoodOutcome (count_outcome v)
count_good (value.Bool b) = tt
count_good (value.Int n) = tt
count_good (value.Text t) = tt
count_good (value.Rows t) = tt

over_good : (v : Value) (go : Table → FormulaStep) → IsGood v → ((t : Table) → AreRows t.fields t.rows → GoodEnd (go t)) →
    GoodEnd (with_rows v go)
over_good (value.Bool b) go g h = tt
over_good (value.Int n) go g h = tt
over_good (value.Text t) go g h = tt
over_good (value.Rows t) go g h = h t g

truly_good : (v : Value) (go : Bool → FormulaStep) → ((b : Bool) → GoodEnd (go b)) → GoodEnd (with_truth v go)
truly_good (value.Bool b) go h = h b
truly_good (value.Int n) go h = tt
truly_good (value.Text t) go h = tt
truly_good (value.Rows t) go h = tt

sum_good : (part : ℕ → FormulaStep) (sum : Value) (at : ℕ) (rs : List Row) → ((n : ℕ) → GoodEnd (part n)) → IsGood sum →
    GoodEnd (sum_from part sum at rs)
sum_good part sum at [] h g = g
sum_good part sum at (r ∷ rs) h g =
    with_good (part at) (λ v. with_value (End (calculation op.Add sum v)) (λ next. sum_from part next (at + 1) rs)) (h at)
    (λ v i. with_good (End (calculation op.Add sum v)) (λ next. sum_from part next (at + 1) rs) (calculation_good op.Add sum v)
    (λ next j. sum_good part next (at + 1) rs h j))

kept_good : (test : ℕ → FormulaStep) (t : Table) (marks : List Bool) (at : ℕ) (rs : List Row) → ((n : ℕ) → GoodEnd (test n)) →
    AreRows t.fields t.rows →
    GoodEnd (kept_from test t marks at rs)
kept_good test t marks at [] h g = AreRows-marked t.fields t.rows marks g
kept_good test t marks at (r ∷ rs) h g =
    with_good (test at) (λ v. with_truth v (λ b. kept_from test t (marks ++ b ∷ []) (at + 1) rs)) (h at)
    (λ v i. truly_good v (λ b. kept_from test t (marks ++ b ∷ []) (at + 1) rs) (λ b. kept_good test t (marks ++ b ∷ []) (at + 1) rs h g))

formula_good : (tracking : Bool) (f : Tree) (row : Option RowRef) (ts us : List Known) → AreGood ts → AreGood us →
    GoodEnd (formula_step tracking f row ts us)
formula_good tracking (literal s) row ts us g h = scalar_good s
formula_good tracking (slot n) row ts us g h = slot_good tracking n (served tracking n ts us) (served_good tracking n ts us g h)
formula_good tracking (row_field f) row ts us g h = field_good f row
formula_good tracking row_key row ts us g h = key_good row
formula_good tracking (negation a) row ts us g h =
    with_good (formula_step tracking a row ts us) (λ v. End (negated v)) (formula_good tracking a row ts us g h) (λ v i. negated_good v)
formula_good tracking (binary o a b) row ts us g h =
    let right = formula_step tracking b row ts us in
    with_good (formula_step tracking a row ts us) (λ v. unless_decided (decided o v) (with_value right (λ w. End (operated o v w))))
    (formula_good tracking a row ts us g h)
    (λ v i. decided_good o v (with_value right (λ w. End (operated o v w)))
    (with_good right (λ w. End (operated o v w)) (formula_good tracking b row ts us g h) (λ w j. operated_good o v w)))
formula_good tracking (choice t a b) row ts us g h =
    with_good (formula_step tracking t row ts us) (λ v. chosen v (formula_step tracking a row ts us) (formula_step tracking b row ts us))
    (formula_good tracking t row ts us g h)
    (λ v i. chosen_good v (formula_step tracking a row ts us) (formula_step tracking b row ts us)
    (formula_good tracking a row ts us g h) (formula_good tracking b row ts us g h))
formula_good tracking (count_of a) row ts us g h =
    with_good (formula_step tracking a row ts us) (λ v. End (count_outcome v)) (formula_good tracking a row ts us g h)
    (λ v i. count_good v)
formula_good tracking (sum_of a b) row ts us g h =
    let part : Table → ℕ → FormulaStep = λ t n. formula_step tracking b (row_at t n) ts us in
    let total : Table → FormulaStep = λ t. sum_from (part t) (value.Int (pos 0)) 0 t.rows in
    with_good (formula_step tracking a row ts us) (λ v. with_rows v total) (formula_good tracking a row ts us g h)
    (λ v i. over_good v total i (λ t j. sum_good (part t) (value.Int (pos 0)) 0 t.rows (λ n. formula_good tracking b
    (row_at t n) ts us g h) tt))
formula_good tracking (rows_where a b) row ts us g h =
    let test : Table → ℕ → FormulaStep = λ t n. formula_step tracking b (row_at t n) ts us in
    let kept : Table → FormulaStep = λ t. kept_from (test t) t [] 0 t.rows in
    with_good (formula_step tracking a row ts us) (λ v. with_rows v kept) (formula_good tracking a row ts us g h)
    (λ v i. over_good v kept i (λ t j. kept_good (test t) t [] 0 t.rows (λ n. formula_good tracking b (row_at t n) ts us g h) j))
formula_good tracking (untracked a) row ts us g h = formula_good false a row ts us g h

plain_good : (s : FormulaStep) → GoodEnd s → IsGoodStep (plain_step s)
plain_good (Ask n tracked) g = tt
plain_good (End (Good v)) g = g
plain_good (End (Bad e)) g = tt

answer_good : (f : Tree) (row : Option RowRef) (known : List Known) → AreGood known → IsGoodStep (answer_of f row known)
answer_good f row known g = plain_good (formula_step false f row known []) (formula_good false f row known [] g tt)

-- ---- all answers

-- a formula makes rows of no others
pub formula_lends : (f : Tree) (row : Option RowRef) → IsLending (answer_of f row)
formula_lends f row = record { gives = answer_good f row }

pub rows_law : RowsLaw
rows_law links source all row f t e =
    let r : Recipe = record { expression = formula row f; slots = links } in
    subst IsGoodOutcome e (asked_good (suc (unknown_slots (length links) [])) no_hosts r source [] (formula_lends f row) all tt)
