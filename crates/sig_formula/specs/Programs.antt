-- A formula as a list of instructions, back to front: a place in it is the number of instructions that are left there.
use Rattle.std.specs.Prelude.{ℕ, Bool, true, false, List, [], ◌∷◌, ◌++◌, length, if◌then◌else◌}
use Rattle.sig_formula.specs.declared.formula.BinOp.{BinOp}
use Rattle.sig_formula.specs.declared.formula.BinOp.TheVariants as op
use Rattle.sig_formula.specs.declared.program.Act.TheVariants as act
use Rattle.sig_formula.specs.declared.program.Gathering.TheVariants.{Sum, Keep}
use Rattle.sig_formula.specs.declared.program.Instruction.{Instruction}
use Rattle.sig_formula.specs.declared.program.Instruction.TheVariants as job
use Rattle.sig_formula.specs.Trees.{Tree, literal, slot, row_field, row_key, negation, binary, choice, count_of, sum_of, rows_where, untracked}

-- whether the left operand can decide alone
abbrev pub decides : BinOp → Bool
decides op.Or = true
decides op.And = true
decides _ = false

-- what stands between the operands: where the left one decides, the evaluation goes on at the end
abbrev pub with_decision : BinOp → ℕ → List Instruction → List Instruction
with_decision o end xs = if decides o then xs ++ job.Do (act.Decide o end) ∷ [] else xs

-- a choice, by the instructions of its parts: those of the branch for false stand already
abbrev pub choice_code : (List Instruction → List Instruction) → (List Instruction → List Instruction) → ℕ → List Instruction → List Instruction
choice_code test one end xs = test (one (xs ++ job.Do (act.Skip end) ∷ []) ++ job.Do (act.Test (length xs)) ∷ [])

-- the instructions of a formula, before others
abbrev pub code : Bool → Tree → List Instruction → List Instruction
code tracking (literal s) xs = xs ++ job.Do (act.Lit s) ∷ []
code tracking (slot n) xs = xs ++ job.Read n tracking ∷ []
code tracking (row_field f) xs = xs ++ job.Do (act.It f) ∷ []
code tracking row_key xs = xs ++ job.Do act.ItKey ∷ []
code tracking (negation a) xs = code tracking a (xs ++ job.Do act.Not ∷ [])
code tracking (binary o a b) xs = code tracking a (with_decision o (length xs) (code tracking b (xs ++ job.Do (act.Operate o) ∷ [])))
code tracking (choice t a b) xs = choice_code (code tracking t) (code tracking a) (length xs) (code tracking b xs)
code tracking (count_of a) xs = code tracking a (xs ++ job.Do act.Count ∷ [])
code tracking (sum_of a b) xs = code tracking a (code tracking b (xs ++ job.Do act.Next ∷ []) ++ job.Do (act.Begin Sum (length xs)) ∷ [])
code tracking (rows_where a b) xs = code tracking a (code tracking b (xs ++ job.Do act.Next ∷ []) ++ job.Do (act.Begin Keep (length xs)) ∷ [])
code tracking (untracked a) xs = code false a xs
