-- Worked cases: the instructions of formulas, where their runs stop, and how they go on, by computing the definitions.
use Rattle.std.specs.Prelude.{◌≡◌, pos, true, false, codes, List, [], ◌∷◌, None}
use Rattle.std.proofs.Common.{refl}
use Rattle.sig_base.specs.declared.scalar.Scalar.TheVariants as scalar
use Rattle.sig_base.specs.declared.value.Value.TheVariants as value
use Rattle.sig_base.specs.declared.value.Outcome.TheVariants.{Good}
use Rattle.sig_formula.specs.declared.evaluate.FormulaStep.TheVariants.{Ask, End}
use Rattle.sig_formula.specs.declared.formula.BinOp.TheVariants.{Add, Eq, Or}
use Rattle.sig_formula.specs.declared.program.Act.TheVariants as act
use Rattle.sig_formula.specs.declared.program.Gathering.TheVariants.{Sum}
use Rattle.sig_formula.specs.declared.program.Instruction.{Instruction}
use Rattle.sig_formula.specs.declared.program.Instruction.TheVariants as job
use Rattle.sig_formula.specs.declared.rounds.Going.TheVariants as going
use Rattle.sig_formula.specs.Examples.{is_first, number, truth, two_rows, with_tables}
use Rattle.sig_formula.specs.Programs.{code}
use Rattle.sig_formula.specs.Machines.{Machine, over, on, begin, run, stepped}
use Rattle.sig_formula.specs.Trees.{slot, binary, choice, negation, sum_of, rows_where, untracked}

-- the sum of two slots, back to front
abbrev pub two_slots : List Instruction
two_slots = code false (binary Add (slot 0) (slot 1)) []

-- the left operand is read first
pub operands_first : two_slots ≡ job.Do (act.Operate Add) ∷ job.Read 1 false ∷ job.Read 0 false ∷ []
operands_first = refl

-- in the right operand, with the left value at hand
abbrev pub in_right : Machine
in_right = record { left = 2; values = value.Int (pos 2) ∷ []; rounds = [] }

-- it stops there
pub stops_right : run two_slots None (record { slot = 0; value = value.Int (pos 2) } ∷ []) [] 1 (on (begin two_slots)) ≡ on in_right
stops_right = refl

-- and asks for the right one
pub asks_right : stepped two_slots None (record { slot = 0; value = value.Int (pos 2) } ∷ []) [] in_right ≡ over (Ask 1 false)
asks_right = refl

-- and what is left doesn't ask for the left one again
pub goes_on_right : run two_slots None (record { slot = 1; value = value.Int (pos 3) } ∷ []) [] 3 (on in_right)
    ≡ over (End (Good (value.Int (pos 5))))
goes_on_right = refl

-- what the left operand can decide stands behind it, and a read in `untrack` isn't tracked
pub left_decides : code true (binary Or (slot 0) (untracked (slot 1))) []
    ≡ job.Do (act.Operate Or) ∷ job.Read 1 false ∷ job.Do (act.Decide Or 0) ∷ job.Read 0 true ∷ []
left_decides = refl

-- a sum whose part needs the slot 3 for the second row
abbrev pub second_needs : List Instruction
second_needs = code false (sum_of (slot 1) (choice is_first (number (pos 1)) (slot 3))) []

-- the rows are evaluated first, and the test of each row's part before its branches
pub rows_first : second_needs
    ≡ job.Do act.Next ∷ job.Read 3 false ∷ job.Do (act.Skip 1) ∷ job.Do (act.Lit (scalar.Int (pos 1))) ∷ job.Do (act.Test 2) ∷ job.Do (act.Operate Eq)
    ∷ job.Do (act.Lit (scalar.Text (codes "a"))) ∷ job.Do act.ItKey ∷ job.Do (act.Begin Sum 0) ∷ job.Read 1 false ∷ []
rows_first = refl

-- in its branch, at the second row, with the sum before it
abbrev pub at_second : Machine
at_second =
    record {
      left = 2;
      values = [];
      rounds = record
          { going = going.Adding (record { rows = two_rows; place = 1; sum = value.Int (pos 1) }); body = 8 } ∷ [];
    }

-- a sum stops at a row
pub stops_at_row : run second_needs None with_tables [] 13 (on (begin second_needs)) ≡ on at_second
stops_at_row = refl

-- and asks for what its part needs
pub asks_at_row : stepped second_needs None with_tables [] at_second ≡ over (Ask 3 false)
asks_at_row = refl

-- and goes on there, with neither the rows nor the first row's part evaluated again
pub goes_on_at_row : run second_needs None (record { slot = 3; value = value.Int (pos 5) } ∷ []) [] 3 (on at_second)
    ≡ over (End (Good (value.Int (pos 6))))
goes_on_at_row = refl

-- a choice of rows stops with the marks before the row
abbrev pub in_test : List Instruction
in_test = code false (rows_where (slot 1) (negation (choice is_first (truth false) (slot 3)))) []

-- it stops with the first row kept
pub stops_in_test : run in_test None with_tables [] 14 (on (begin in_test))
    ≡ on (record { left = 3; values = []; rounds = record { going = going.Keeping (record { rows = two_rows; marks = true ∷ [] }); body = 9 } ∷ [] })
stops_in_test = refl
