-- A machine that runs the instructions of a formula.
use Rattle.std.specs.Prelude.{◌≡◌, ℕ, zero, suc, pos, ◌+◌, Bool, true, false, List, [], ◌∷◌, ◌++◌, Option, Some, None, length, nat_lt}
use Rattle.std.specs.List.{slice_get}
use Rattle.sig_base.specs.Tables.{Table, marked}
use Rattle.sig_base.specs.Values.{scalar_value}
use Rattle.sig_base.specs.declared.value.Value.{Value}
use Rattle.sig_base.specs.declared.value.Value.TheVariants as value
use Rattle.sig_base.specs.declared.value.Fault.{Fault}
use Rattle.sig_base.specs.declared.value.Fault.TheVariants.{Kind}
use Rattle.sig_base.specs.declared.value.Known.{Known}
use Rattle.sig_base.specs.declared.value.Outcome.{Outcome}
use Rattle.sig_base.specs.declared.value.Outcome.TheVariants.{Good, Bad}
use Rattle.sig_formula.specs.declared.formula.BinOp.{BinOp}
use Rattle.sig_formula.specs.declared.formula.BinOp.TheVariants as op
use Rattle.sig_formula.specs.declared.formula.RowRef.{RowRef}
use Rattle.sig_formula.specs.declared.evaluate.FormulaStep.{FormulaStep}
use Rattle.sig_formula.specs.declared.evaluate.FormulaStep.TheVariants.{Ask, End}
use Rattle.sig_formula.specs.declared.program.Gathering.{Gathering}
use Rattle.sig_formula.specs.declared.program.Act.{Act}
use Rattle.sig_formula.specs.declared.program.Act.TheVariants as act
use Rattle.sig_formula.specs.declared.program.Gathering.TheVariants as gathering
use Rattle.sig_formula.specs.declared.program.Instruction.{Instruction}
use Rattle.sig_formula.specs.declared.program.Instruction.TheVariants as job
use Rattle.sig_formula.specs.declared.rounds.Adding.{Adding}
use Rattle.sig_formula.specs.declared.rounds.Going.{Going}
use Rattle.sig_formula.specs.declared.rounds.Going.TheVariants as going
use Rattle.sig_formula.specs.declared.rounds.Round.{Round}
use Rattle.sig_formula.specs.Evaluation.{calculation, count_outcome, decided, field_outcome, key_outcome, negated, operated, served}
use Rattle.sig_formula.specs.Marked.{MarkedRows}
use Rattle.sig_formula.specs.Programs.{code}
use Rattle.sig_formula.specs.Trees.{Tree}

-- the first of a list
abbrev pub first_of : {A : Type 0} → List A → Option A
first_of [] = None
first_of (x ∷ xs) = Some x

-- the others
abbrev pub others : {A : Type 0} → List A → List A
others [] = []
others (x ∷ xs) = xs

-- ---- rows that are gone over

-- the rows
abbrev pub rows_of : Going → Table
rows_of (going.Adding a) = a.rows
rows_of (going.Keeping k) = k.rows

-- the place of the row at which it stands
abbrev pub place_of : Going → ℕ
place_of (going.Adding a) = a.place
place_of (going.Keeping k) = length k.marks

-- whether it stands at a row, and not behind the last one
abbrev pub is_within : Going → Bool
is_within g = nat_lt (place_of g) (length (rows_of g).rows)

-- the row at a place, where there is one
abbrev pub row_where : Bool → Table → ℕ → Option RowRef
row_where true t n = Some (record { rows = t; place = n })
row_where false t n = None

-- the row at which it stands
abbrev pub row_of : Going → Option RowRef
row_of g = row_where (is_within g) (rows_of g) (place_of g)

-- what is made of rows, from the first one on
abbrev pub going_over : Gathering → Table → Going
going_over gathering.Sum t = going.Adding (record { rows = t; place = 0; sum = value.Int (pos 0) })
going_over gathering.Keep t = going.Keeping (record { rows = t; marks = [] })

-- what it comes to behind the last row
abbrev pub made : Going → Value
made (going.Adding a) = a.sum
made (going.Keeping k) = value.Rows (record { fields = k.rows.fields; rows = marked k.marks k.rows.rows })

-- ---- the machine

-- how many instructions are left, the values of parts that were evaluated, and the rows that are gone over, the innermost first
pub record Machine : Type 0 where
  pub left : ℕ
  pub values : List Value
  pub rounds : List Round

-- what one instruction leads to: the evaluation is over, or goes on
pub data Next : Type 0 where
  over : FormulaStep → Next
  on : Machine → Next

-- what a call tells of it, which gives the fault with which it is over
abbrev pub next_of : Option Fault → Machine → Next
next_of None m = on m
next_of (Some e) m = over (End (Bad e))

-- the same of a call that gives the step
abbrev pub next_by : Option FormulaStep → Machine → Next
next_by None m = on m
next_by (Some s) m = over s

-- whether a step asks for a slot
abbrev pub is_asked : Option FormulaStep → Bool
is_asked (Some (Ask n tracked)) = true
is_asked _ = false

-- at another place
abbrev pub moved : ℕ → Machine → Machine
moved left m = record { left = left; values = m.values; rounds = m.rounds }

-- without the value on top
abbrev pub popped : Machine → Machine
popped m = record { left = m.left; values = others m.values; rounds = m.rounds }

-- without the innermost round
abbrev pub out : Machine → Machine
out m = record { left = m.left; values = m.values; rounds = others m.rounds }

-- goes on with what a part comes to
abbrev pub given : Outcome → ℕ → Machine → Next
given (Good v) left m = on (record { left = left; values = v ∷ m.values; rounds = m.rounds })
given (Bad e) left m = over (End (Bad e))

-- goes on with what becomes of a value
abbrev pub mapped : (Value → Outcome) → Option Value → ℕ → Machine → Next
mapped f None left m = over (End (Bad Kind))
mapped f (Some v) left m = given (f v) left m

-- goes on with the value of a slot, where it is known
abbrev pub read : ℕ → Bool → Option Value → ℕ → Machine → Next
read n tracking None left m = over (Ask n tracking)
read n tracking (Some v) left m = given (Good v) left m

-- goes on at the end with what the left operand decides, or else with the right one
abbrev pub settled : Option Outcome → Value → ℕ → ℕ → Machine → Next
settled None v end left m = given (Good v) left m
settled (Some o) v end left m = given o end m

-- the same of a left operand, which has to be there
abbrev pub after_left : BinOp → Option Value → ℕ → ℕ → Machine → Next
after_left o None end left m = over (End (Bad Kind))
after_left o (Some v) end left m = settled (decided o v) v end left m

-- goes on with what an operator makes of two operands
abbrev pub after_right : BinOp → Option Value → Option Value → ℕ → Machine → Next
after_right o (Some v) (Some w) left m = given (operated o v w) left m
after_right o _ _ left m = over (End (Bad Kind))

-- goes on with a branch
abbrev pub after_test : Option Value → ℕ → ℕ → Machine → Next
after_test (Some (value.Bool true)) other left m = on (moved left m)
after_test (Some (value.Bool false)) other left m = on (moved other m)
after_test _ other left m = over (End (Bad Kind))

-- goes on with the part of a row, or behind the last row with what was made
abbrev pub turned : Bool → Going → ℕ → ℕ → Machine → Next
turned true g body end m = on (record { left = body; values = m.values; rounds = record { going = g; body = body } ∷ m.rounds })
turned false g body end m = given (Good (made g)) end m

-- the same by whether a row is left
abbrev pub arrived : Going → ℕ → ℕ → Machine → Next
arrived g body end m = turned (is_within g) g body end m

-- goes on with rows
abbrev pub after_rows : Gathering → Option Value → ℕ → ℕ → Machine → Next
after_rows k (Some (value.Rows t)) end left m = arrived (going_over k t) left end m
after_rows k _ end left m = over (End (Bad Kind))

-- goes on with the next row, by what is added up
abbrev pub added : Adding → Outcome → ℕ → ℕ → Machine → Next
added a (Good sum) body end m = arrived (going.Adding (record { rows = a.rows; place = a.place + 1; sum = sum })) body end m
added a (Bad e) body end m = over (End (Bad e))

-- goes on with the next row, by whether one is kept
abbrev pub kept : MarkedRows → Value → ℕ → ℕ → Machine → Next
kept k (value.Bool b) body end m = arrived (going.Keeping (record { rows = k.rows; marks = k.marks ++ b ∷ [] })) body end m
kept k _ body end m = over (End (Bad Kind))

-- goes on with the next row, by what the part of one comes to
abbrev pub used : Going → Value → ℕ → ℕ → Machine → Next
used (going.Adding a) v body end m = added a (calculation op.Add a.sum v) body end m
used (going.Keeping k) v body end m = kept k v body end m

-- the same of a round that stands at a row
abbrev pub used_within : Bool → Going → Value → ℕ → ℕ → Machine → Next
used_within true g v body end m = used g v body end m
used_within false g v body end m = over (End (Bad Kind))

-- the same of what was put on top, and the innermost round
abbrev pub after_part : Option Value → Option Round → ℕ → Machine → Next
after_part (Some v) (Some r) end m = used_within (is_within r.going) r.going v r.body end m
after_part _ _ end m = over (End (Bad Kind))

-- the row of a round, or else the one that was given
abbrev pub row_by : Option Round → Option RowRef → Option RowRef
row_by None row = row
row_by (Some r) row = row_of r.going

-- the row that a part speaks of
abbrev pub row_at_hand : List Round → Option RowRef → Option RowRef
row_at_hand rs row = row_by (first_of rs) row

-- what an act leads to, by the number of the instructions behind
abbrev pub done : Act → ℕ → Option RowRef → Machine → Next
done (act.Lit s) left row m = given (Good (scalar_value s)) left m
done (act.It f) left row m = given (field_outcome f (row_at_hand m.rounds row)) left m
done act.ItKey left row m = given (key_outcome (row_at_hand m.rounds row)) left m
done act.Not left row m = mapped negated (first_of m.values) left (popped m)
done act.Count left row m = mapped count_outcome (first_of m.values) left (popped m)
done (act.Decide o end) left row m = after_left o (first_of m.values) end left (popped m)
done (act.Operate o) left row m = after_right o (first_of (others m.values)) (first_of m.values) left (popped (popped m))
done (act.Test other) left row m = after_test (first_of m.values) other left (popped m)
done (act.Skip end) left row m = on (moved end m)
done (act.Begin k end) left row m = after_rows k (first_of m.values) end left (popped m)
done act.Next left row m = after_part (first_of m.values) (first_of m.rounds) left (out (popped m))

-- what an instruction leads to
abbrev pub executed : Instruction → ℕ → Option RowRef → List Known → List Known → Machine → Next
executed (job.Read n tracking) left row ts us m = read n tracking (served tracking n ts us) left m
executed (job.Do a) left row ts us m = done a left row m

-- what an evaluation comes to that has no instruction left
abbrev pub ended : Option Value → Outcome
ended None = Bad Kind
ended (Some v) = Good v

-- the same of one that has to be there
abbrev pub executed_at : Option Instruction → ℕ → Option RowRef → List Known → List Known → Machine → Next
executed_at None left row ts us m = over (End (Bad Kind))
executed_at (Some i) left row ts us m = executed i left row ts us m

-- the number before one
abbrev pub before : ℕ → Option ℕ
before zero = None
before (suc n) = Some n

-- one step of the machine, by the number of instructions behind the next one
abbrev pub stepped_at : List Instruction → Option ℕ → Option RowRef → List Known → List Known → Machine → Next
stepped_at xs None row ts us m = over (End (ended (first_of m.values)))
stepped_at xs (Some n) row ts us m = executed_at (slice_get xs n) n row ts us m

-- one step of the machine
abbrev pub stepped : List Instruction → Option RowRef → List Known → List Known → Machine → Next
stepped xs row ts us m = stepped_at xs (before m.left) row ts us m

-- so many steps, as long as it goes on
abbrev pub run : List Instruction → Option RowRef → List Known → List Known → ℕ → Next → Next
run xs row ts us zero x = x
run xs row ts us (suc n) (over s) = over s
run xs row ts us (suc n) (on m) = run xs row ts us n (stepped xs row ts us m)

-- at the first instruction
abbrev pub begin : List Instruction → Machine
begin xs = record { left = length xs; values = []; rounds = [] }

-- ---- what a paused evaluation stands for

-- instructions, and a machine that runs them
pub record Evaluation : Type 0 where
  pub program : List Instruction
  pub machine : Machine

-- at the first of the instructions
abbrev pub begun : List Instruction → Evaluation
begun xs = record { program = xs; machine = begin xs }

-- of an evaluation of a formula, by what was read: its machine has come to where it stands
pub record IsReached (tracking : Bool) (p : Evaluation) (t : Tree) (row : Option RowRef) (ts us : List Known) : Type 0 where
  pub compiled : p.program ≡ code tracking t []
  pub steps : ℕ
  pub come : run p.program row ts us steps (on (begin p.program)) ≡ on p.machine

-- of an evaluation that was given these values
abbrev pub IsPaused : Evaluation → Tree → Option RowRef → List Known → Type 0
IsPaused p t row known = IsReached false p t row known []
