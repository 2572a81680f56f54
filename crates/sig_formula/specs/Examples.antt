-- Each operator at its edges: what formulas answer, by computing the definition.
use Rattle.std.specs.Prelude.{◌≡◌, ℕ, ℤ, pos, negsuc, ◌-◌, ◌^◌, Bool, true, false, List, [], ◌∷◌, ◌++◌, map, codes, replicate, None}
use Rattle.std.proofs.Common.{refl}
use Rattle.sig_base.specs.Tables.{Table}
use Rattle.sig_base.specs.declared.rows.Row.{Row}
use Rattle.sig_base.specs.declared.scalar.Scalar.TheVariants as scalar
use Rattle.sig_base.specs.declared.value.Value.TheVariants as value
use Rattle.sig_base.specs.declared.value.Fault.TheVariants.{Overflow, Zero, Kind, Long, Absent}
use Rattle.sig_base.specs.declared.value.Known.{Known}
use Rattle.sig_base.specs.declared.value.Step.{Step}
use Rattle.sig_base.specs.declared.value.Step.TheVariants.{Read, Done, Fail}
use Rattle.sig_formula.specs.Evaluation.{answer_of, row_at}
use Rattle.sig_formula.specs.declared.formula.BinOp.{BinOp}
use Rattle.sig_formula.specs.declared.formula.BinOp.TheVariants.{Or, And, Eq, Ne, Lt, Le, Gt, Ge, Join, Add, Sub, Mul, Div, Rem}
use Rattle.sig_formula.specs.Trees.{Tree, literal, slot, negation, binary, choice, count_of, sum_of, rows_where, untracked, row_field, row_key}

-- the answer of a formula that knows nothing
abbrev pub alone : Tree → Step
alone t = answer_of t None []

-- two operands, side by side
pub record Two : Type 0 where
  pub left : Tree
  pub right : Tree

-- what an operator answers to each two operands
abbrev pub answers : BinOp → List Two → List Step
answers o ts = map (λ (t : Two). alone (binary o t.left t.right)) ts

-- two operands
abbrev pub two : Tree → Tree → Two
two a b = record { left = a; right = b }

-- a whole number as a formula
abbrev pub number : ℤ → Tree
number n = literal (scalar.Int n)

-- a truth as a formula
abbrev pub truth : Bool → Tree
truth b = literal (scalar.Bool b)

-- a text as a formula
abbrev pub text : List ℕ → Tree
text t = literal (scalar.Text t)

-- two whole numbers
abbrev pub numbers : ℤ → ℤ → Two
numbers m n = two (number m) (number n)

-- two texts
abbrev pub texts : List ℕ → List ℕ → Two
texts s t = two (text s) (text t)

-- the answer that is this whole number
abbrev pub int : ℤ → Step
int n = Done (value.Int n)

-- the answer `true`
abbrev pub is_true : Step
is_true = Done (value.Bool true)

-- the answer `false`
abbrev pub is_false : Step
is_false = Done (value.Bool false)

-- the least whole number
abbrev pub least : ℤ
least = negsuc (2 ^ 63 - 1)

-- the greatest whole number
abbrev pub most : ℤ
most = pos (2 ^ 63 - 1)

-- the whole number -1
abbrev pub minus_one : ℤ
minus_one = negsuc 0

-- this many letters
abbrev pub letters : ℕ → List ℕ
letters n = replicate n 97

-- a sum outside 64 bits, at either end, is no number
pub sums : answers Add (numbers (pos 2) (pos 3) ∷ numbers most (pos 1) ∷ numbers least minus_one ∷ numbers least most ∷ [])
    ≡ int (pos 5) ∷ Fail Overflow ∷ Fail Overflow ∷ int minus_one ∷ []
sums = refl

-- nor is such a difference
pub differences : answers Sub
    (numbers least (pos 1) ∷ numbers (pos 0) least ∷ numbers minus_one least ∷ numbers most minus_one ∷ numbers least least ∷ [])
    ≡ Fail Overflow ∷ Fail Overflow ∷ int most ∷ Fail Overflow ∷ int (pos 0) ∷ []
differences = refl

-- nor such a product
pub products : answers Mul
    (numbers (pos 3037000500) (pos 3037000500) ∷ numbers least minus_one ∷ numbers least least ∷ numbers most minus_one ∷ numbers least (pos 0)
    ∷ numbers (negsuc 3) (pos 5) ∷ [])
    ≡ Fail Overflow ∷ Fail Overflow ∷ Fail Overflow ∷ int (negsuc (2 ^ 63 - 2)) ∷ int (pos 0) ∷ int (negsuc 19) ∷ []
products = refl

-- a quotient is cut off towards zero, and that of the least number by -1 is too large
pub quotients : answers Div
    (numbers (pos 7) (pos 2) ∷ numbers (negsuc 6) (pos 2) ∷ numbers (pos 7) (negsuc 1) ∷ numbers (negsuc 6) (negsuc 1) ∷ numbers least minus_one
    ∷ numbers least (pos 1) ∷ numbers most minus_one ∷ numbers (pos 1) least ∷ [])
    ≡ int (pos 3) ∷ int (negsuc 2) ∷ int (negsuc 2) ∷ int (pos 3) ∷ Fail Overflow
    ∷ int least ∷ int (negsuc (2 ^ 63 - 2)) ∷ int (pos 0) ∷ []
quotients = refl

-- a remainder has the sign of the dividend, and that of the least number by -1 is 0
pub remainders : answers Rem
    (numbers (pos 7) (pos 3) ∷ numbers (negsuc 6) (pos 3) ∷ numbers (pos 7) (negsuc 2) ∷ numbers (negsuc 6) (negsuc 2) ∷ numbers (pos 5) least
    ∷ numbers least least ∷ numbers least minus_one ∷ [])
    ≡ int (pos 1) ∷ int minus_one ∷ int (pos 1) ∷ int minus_one ∷ int (pos 5) ∷ int (pos 0) ∷ int (pos 0) ∷ []
remainders = refl

-- nothing is divided by zero; kinds are looked at first
pub zero_divisors : answers Div (numbers (pos 1) (pos 0) ∷ numbers (pos 0) (pos 0) ∷ numbers least (pos 0) ∷ two (truth true) (number (pos 0)) ∷ [])
    ++ answers Rem (numbers (pos 1) (pos 0) ∷ numbers (pos 0) (pos 0) ∷ [])
    ≡ Fail Zero ∷ Fail Zero ∷ Fail Zero ∷ Fail Kind ∷ Fail Zero ∷ Fail Zero ∷ []
zero_divisors = refl

-- two operands below, equal and above, by which each comparison is told
abbrev pub compared_by : BinOp → List Step
compared_by o = answers o (numbers least most ∷ numbers (pos 1) (pos 1) ∷ numbers (pos 1) minus_one
    ∷ texts (codes "a") (codes "ab") ∷ texts (codes "a") (codes "a") ∷ texts (codes "b") (codes "aa") ∷ [])

-- whole numbers are compared by size, texts byte by byte
pub comparisons : map compared_by (Eq ∷ Ne ∷ Lt ∷ Le ∷ Gt ∷ Ge ∷ [])
    ≡ (is_false ∷ is_true ∷ is_false ∷ is_false ∷ is_true ∷ is_false ∷ [])
    ∷ (is_true ∷ is_false ∷ is_true ∷ is_true ∷ is_false ∷ is_true ∷ [])
    ∷ (is_true ∷ is_false ∷ is_false ∷ is_true ∷ is_false ∷ is_false ∷ [])
    ∷ (is_true ∷ is_true ∷ is_false ∷ is_true ∷ is_true ∷ is_false ∷ [])
    ∷ (is_false ∷ is_false ∷ is_true ∷ is_false ∷ is_false ∷ is_true ∷ [])
    ∷ (is_false ∷ is_true ∷ is_true ∷ is_false ∷ is_true ∷ is_true ∷ [])
    ∷ []
comparisons = refl

-- capitals stand before small letters, and these before what isn't ASCII
pub text_orders : answers Lt (texts (codes "Z") (codes "a") ∷ texts (codes "z") (codes "é") ∷ texts (codes "ﬀ") (codes "😀")
    ∷ texts [] (codes "a") ∷ [])
    ≡ is_true ∷ is_true ∷ is_true ∷ is_true ∷ []
text_orders = refl

-- truths are equal or not, and have no order
pub truths : map (λ (o : BinOp). alone (binary o (truth false) (truth true))) (Eq ∷ Ne ∷ Lt ∷ Le ∷ Gt ∷ Ge ∷ [])
    ≡ is_false ∷ is_true ∷ Fail Kind ∷ Fail Kind ∷ Fail Kind ∷ Fail Kind ∷ []
truths = refl

-- what is shown of two scalars is joined, up to 1,024 bytes
pub joins : answers Join (two (text (codes "é")) (truth false) ∷ texts [] [] ∷ texts (letters 1000) (letters 24)
    ∷ texts (letters 1000) (letters 25) ∷ [])
    ≡ Done (value.Text (codes "éfalse")) ∷ Done (value.Text []) ∷ Done (value.Text (letters 1024)) ∷ Fail Long ∷ []
joins = refl

-- all operators
abbrev pub operators : List BinOp
operators = Or ∷ And ∷ Eq ∷ Ne ∷ Lt ∷ Le ∷ Gt ∷ Ge ∷ Join ∷ Add ∷ Sub ∷ Mul ∷ Div ∷ Rem ∷ []

-- the operators that take two operands of one kind alone
abbrev pub alike : List BinOp
alike = Or ∷ And ∷ Eq ∷ Ne ∷ Lt ∷ Le ∷ Gt ∷ Ge ∷ Add ∷ Sub ∷ Mul ∷ Div ∷ Rem ∷ []

-- as many answers `kind`
abbrev pub all_kind : List BinOp → List Step
all_kind os = map (λ (o : BinOp). Fail Kind) os

-- which operators take texts
pub text_kinds : map (λ (o : BinOp). alone (binary o (text (codes "a")) (text (codes "b")))) operators
    ≡ Fail Kind ∷ Fail Kind ∷ is_false ∷ is_true ∷ is_true ∷ is_true ∷ is_false ∷ is_false ∷ Done (value.Text (codes "ab"))
    ∷ Fail Kind ∷ Fail Kind ∷ Fail Kind ∷ Fail Kind ∷ Fail Kind ∷ []
text_kinds = refl

-- which take truths
pub truth_kinds : map (λ (o : BinOp). alone (binary o (truth false) (truth true))) operators
    ≡ is_true ∷ is_false ∷ is_false ∷ is_true ∷ Fail Kind ∷ Fail Kind ∷ Fail Kind ∷ Fail Kind ∷ Done (value.Text (codes "falsetrue"))
    ∷ Fail Kind ∷ Fail Kind ∷ Fail Kind ∷ Fail Kind ∷ Fail Kind ∷ []
truth_kinds = refl

-- but for joining, no operator takes a number and a text
pub mixed_kinds : (map (λ (o : BinOp). alone (binary o (number (pos 1)) (text (codes "1")))) alike ≡ all_kind alike)
    × (map (λ (o : BinOp). alone (binary o (text (codes "true")) (truth true))) alike ≡ all_kind alike)
mixed_kinds = (refl, refl)

-- rows under the slot 0 and the whole number 7 under the slot 2
abbrev pub known : List Known
known = record { slot = 0; value = value.Rows (record { fields = []; rows = [] }) } ∷ record { slot = 2; value = value.Int (pos 7) } ∷ []

-- no operator takes rows, on either side
pub row_kinds : (map (λ (o : BinOp). answer_of (binary o (slot 0) (slot 2)) None known) operators ≡ all_kind operators)
    × (map (λ (o : BinOp). answer_of (binary o (slot 2) (slot 0)) None known) operators ≡ all_kind operators)
row_kinds = (refl, refl)

-- a division by zero
abbrev pub by_zero : Tree
by_zero = binary Div (number (pos 1)) (number (pos 0))

-- the left operand is evaluated first, and the first fault ends the formula; kinds are looked at when both operands are there
pub left_first : map alone
    (binary Add by_zero (slot 0) ∷ binary Add (truth true) (slot 0) ∷ binary Add (slot 1) by_zero ∷ binary And (number (pos 1)) (slot 0) ∷ [])
    ≡ Fail Zero ∷ Read 0 ∷ Read 1 ∷ Fail Kind ∷ []
left_first = refl

-- `or` and `and` need their right side only where the left one doesn't decide
pub decided_early : answers Or (two (truth true) by_zero ∷ two (truth false) by_zero ∷ two (truth false) (slot 3)
    ∷ two (truth false) (number (pos 1)) ∷ [])
    ++ answers And (two (truth false) by_zero ∷ two (truth true) by_zero ∷ two (truth true) (slot 3) ∷ two (truth true) (number (pos 1)) ∷ [])
    ≡ is_true ∷ Fail Zero ∷ Read 3 ∷ Fail Kind ∷ is_false ∷ Fail Zero ∷ Read 3 ∷ Fail Kind ∷ []
decided_early = refl

-- of a choice one branch is evaluated, by a truth
pub choices : map alone
    (choice (truth true) (number (pos 1)) by_zero ∷ choice (truth false) by_zero (slot 1) ∷ choice (number (pos 1)) (slot 0) (slot 1)
    ∷ choice by_zero (slot 0) (slot 1)
    ∷ choice (slot 4) by_zero by_zero ∷ [])
    ≡ int (pos 1) ∷ Read 1 ∷ Fail Kind ∷ Fail Zero ∷ Read 4 ∷ []
choices = refl

-- a truth alone has another
pub negations : map alone (negation (truth true) ∷ negation (truth false) ∷ negation (number (pos 0)) ∷ negation (text []) ∷ negation (slot 7) ∷ [])
    ≡ is_false ∷ is_true ∷ Fail Kind ∷ Fail Kind ∷ Read 7 ∷ []
negations = refl

-- a slot is asked for until it is known, tracked or not
pub slots : map (λ (t : Tree). answer_of t None known) (binary Mul (untracked (slot 2)) (slot 2) ∷ slot 1 ∷ slot 0 ∷ negation (slot 0)
    ∷ choice (slot 0) by_zero by_zero ∷ [])
    ≡ int (pos 49) ∷ Read 1 ∷ Done (value.Rows (record { fields = []; rows = [] })) ∷ Fail Kind ∷ Fail Kind ∷ []
slots = refl

-- ---- rows

-- a row of one whole number
abbrev pub row : List ℕ → ℤ → Row
row k n = record { key = k; values = scalar.Int n ∷ [] }

-- rows with the field `n`
abbrev pub table : List Row → Table
table rs = record { fields = codes "n" ∷ []; rows = rs }

-- the rows `a` with 1 and `b` with 2
abbrev pub two_rows : Table
two_rows = table (row (codes "a") (pos 1) ∷ row (codes "b") (pos 2) ∷ [])

-- no rows under the slot 0, these under the slot 1, and under the slot 2 rows whose partial sum leaves 64 bits
abbrev pub with_tables : List Known
with_tables =
    record { slot = 0; value = value.Rows (table []) } ∷ record { slot = 1; value = value.Rows two_rows }
    ∷ record { slot = 2; value = value.Rows (table (row (codes "a") most ∷ row (codes "b") (pos 1) ∷ row (codes "c") minus_one ∷ [])) } ∷ []

-- the answers of formulas that know these
abbrev pub over_tables : List Tree → List Step
over_tables ts = map (λ (t : Tree). answer_of t None with_tables) ts

-- the field `n` of the present row
abbrev pub field : Tree
field = row_field (codes "n")

-- whether the present row is `a`
abbrev pub is_first : Tree
is_first = binary Eq row_key (text (codes "a"))

-- rows are counted, and nothing else
pub counts : over_tables (count_of (slot 0) ∷ count_of (slot 1) ∷ count_of (number (pos 1)) ∷ count_of (slot 3) ∷ count_of by_zero ∷ [])
    ≡ int (pos 0) ∷ int (pos 2) ∷ Fail Kind ∷ Read 3 ∷ Fail Zero ∷ []
counts = refl

-- a field of each row is added; a part that is no whole number is of the wrong kind, and so is what is no rows
pub sums_of_rows : over_tables (sum_of (slot 1) field ∷ sum_of (slot 1) (number (pos 5)) ∷ sum_of (slot 1) row_key
    ∷ sum_of (number (pos 1)) (slot 3) ∷ [])
    ≡ int (pos 3) ∷ int (pos 10) ∷ Fail Kind ∷ Fail Kind ∷ []
sums_of_rows = refl

-- a partial sum that leaves 64 bits ends the formula, also where later rows would lead back
pub partial_sums : over_tables (sum_of (slot 2) field ∷ []) ≡ Fail Overflow ∷ []
partial_sums = refl

-- the rows whose test is true are kept, in order
pub kept_rows : over_tables (rows_where (slot 1) is_first ∷ rows_where (slot 1) (truth true) ∷ rows_where (slot 1) (truth false) ∷ [])
    ≡ Done (value.Rows (table (row (codes "a") (pos 1) ∷ []))) ∷ Done (value.Rows two_rows) ∷ Done (value.Rows (table [])) ∷ []
kept_rows = refl

-- a test that is no truth is of the wrong kind, and so is what is no rows
pub kept_kinds : over_tables (rows_where (slot 1) field ∷ rows_where (truth true) (slot 3) ∷ rows_where (slot 3) (truth true) ∷ [])
    ≡ Fail Kind ∷ Fail Kind ∷ Read 3 ∷ []
kept_kinds = refl

-- of no rows nothing is evaluated
pub no_rows : over_tables (sum_of (slot 0) by_zero ∷ rows_where (slot 0) by_zero ∷ [])
    ≡ int (pos 0) ∷ Done (value.Rows (table [])) ∷ []
no_rows = refl

-- a row's part is checked before the next row's is evaluated
pub one_row_first : over_tables
    (sum_of (slot 1) (choice is_first (truth true) (slot 3)) ∷ rows_where (slot 1) (choice is_first (number (pos 1)) (slot 3))
    ∷ sum_of (slot 1) (choice is_first (number (pos 1)) (slot 3)) ∷ rows_where (slot 1) (choice is_first (truth true) (slot 3)) ∷ [])
    ≡ Fail Kind ∷ Fail Kind ∷ Read 3 ∷ Read 3 ∷ []
one_row_first = refl

-- the fields that rows have, and those that they don't
pub absent_fields : over_tables (sum_of (slot 1) (row_field (codes "m")) ∷ rows_where (slot 1) (row_field (codes "m")) ∷ [])
    ≡ Fail Absent ∷ Fail Absent ∷ []
absent_fields = refl

-- an inner `it` hides an outer one; the first part of an inner form still speaks of the outer row
pub inner_rows : over_tables
    (sum_of (slot 1) (binary Mul field (sum_of (slot 1) field)) ∷ sum_of (slot 1) (count_of (rows_where (slot 1) is_first))
    ∷ sum_of (slot 1) (count_of (rows_where (choice is_first (slot 1) (slot 0)) (truth true))) ∷ [])
    ≡ int (pos 9) ∷ int (pos 2) ∷ int (pos 2) ∷ []
inner_rows = refl

-- the row that is given; where none is, there is neither field nor key
pub given_rows : map (λ (t : Tree). answer_of t (row_at two_rows 1) []) (field ∷ row_key ∷ row_field (codes "m") ∷ [])
    ++ map alone (field ∷ row_key ∷ [])
    ≡ int (pos 2) ∷ Done (value.Text (codes "b")) ∷ Fail Absent ∷ Fail Absent ∷ Fail Absent ∷ []
given_rows = refl
