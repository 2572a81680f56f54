-- An evaluation whose machine has come to where it stands: it goes on there, also where more is read, and ends with what the formula answers.
use Rattle.std.proofs.Common.{arith, ◌≡◌, ◌∙◌, ◌+◌, ◌<◌, ◌++◌, if◌then◌else◌, ℕ, zero, suc, Bool, true, false, List, [], ◌∷◌, Option, Some, None, ap, sym, subst, refl, ◌==◌}
use Rattle.std.specs.Option.{option_or}
use Rattle.std.specs.Prelude.{slice_get}
use Rattle.sig_base.specs.declared.value.Value.{Value}
use Rattle.sig_base.specs.declared.value.Known.{Known}
use Rattle.sig_base.specs.declared.value.Outcome.{Outcome}
use Rattle.sig_base.specs.declared.value.Outcome.TheVariants.{Good, Bad}
use Rattle.sig_formula.specs.declared.evaluate.FormulaStep.{FormulaStep}
use Rattle.sig_formula.specs.declared.evaluate.FormulaStep.TheVariants.{End}
use Rattle.sig_formula.specs.declared.formula.RowRef.{RowRef}
use Rattle.sig_formula.specs.declared.program.Instruction.{Instruction}
use Rattle.sig_formula.specs.declared.program.Instruction.TheVariants as job
use Rattle.sig_formula.specs.Evaluation.{formula_step, known_at, plain_step, served, step_by}
use Rattle.sig_formula.specs.Programs.{code}
use Rattle.sig_formula.specs.Machines.{Evaluation, IsPaused, IsReached, Machine, Next, over, on, before, begin, begun, executed_at, read, run, stepped, stepped_at}
use Rattle.sig_formula.specs.Trees.{Tree}
use Rattle.sig_formula.proofs.Compiled.{answers, run_more, stays}

-- how many steps are left of so many at most
abbrev pub steps_left : List Instruction → Option RowRef → List Known → List Known → ℕ → Next → ℕ
steps_left xs row ts us zero x = 0
steps_left xs row ts us (suc n) (over s) = 0
steps_left xs row ts us (suc n) (on m) = suc (steps_left xs row ts us n (stepped xs row ts us m))

-- the same of an evaluation of a formula
abbrev pub measure : Bool → Evaluation → Tree → Option RowRef → List Known → List Known → ℕ
measure tracking p t row ts us = steps_left (code tracking t []) row ts us (answers tracking t row ts us).steps (on p.machine)

step_of : FormulaStep → Next → FormulaStep
step_of s (on m) = s
step_of s (over r) = r

-- a run that is over has no more steps left where more are allowed
enough : (xs : List Instruction) (row : Option RowRef) (ts us : List Known) (n : ℕ) (x : Next) (s : FormulaStep) → run xs row ts us n x ≡ over s →
    steps_left xs row ts us (suc n) x ≡ steps_left xs row ts us n x
enough xs row ts us zero (over r) s e = refl
enough xs row ts us zero (on m) s e = absurd (cc)
enough xs row ts us (suc n) (over r) s e = refl
enough xs row ts us (suc n) (on m) s e = ap suc (enough xs row ts us n (stepped xs row ts us m) s e)

one_less : (xs : List Instruction) (row : Option RowRef) (ts us : List Known) (n : ℕ) (m : Machine) (s : FormulaStep) → run xs row ts us n (on m) ≡ over s →
    steps_left xs row ts us n (stepped xs row ts us m) < steps_left xs row ts us n (on m)
one_less xs row ts us zero m s e = absurd (cc)
one_less xs row ts us (suc n) m s e =
    let h = enough xs row ts us n (stepped xs row ts us m) s e in
    omega (arith, h)

-- a machine that is come to by the run of a formula ends with its answer
comes_to_end : (tracking : Bool) (p : Evaluation) (t : Tree) (row : Option RowRef) (ts us : List Known) → IsReached tracking p t row ts us →
    run (code tracking t []) row ts us (answers tracking t row ts us).steps (on p.machine) ≡ over (formula_step tracking t row ts us)
comes_to_end tracking p t row ts us h =
    let xs : List Instruction = code tracking t [] in
    let n : ℕ = (answers tracking t row ts us).steps in
    let here : run xs row ts us h.steps (on (begin xs)) ≡ on p.machine
    = subst (λ (ys : List Instruction). run ys row ts us h.steps (on (begin ys)) ≡ on p.machine) h.compiled h.come in
    let turned : n + h.steps ≡ h.steps + n = omega arith in
    ap (λ z. run xs row ts us n z) (sym here)
    ∙ (sym (run_more xs row ts us h.steps n (on (begin xs)))
    ∙ (ap (λ k. run xs row ts us k (on (begin xs))) (sym turned)
    ∙ (run_more xs row ts us n h.steps (on (begin xs))
    ∙ (ap (λ z. run xs row ts us h.steps z) (answers tracking t row ts us).is
    ∙ stays xs row ts us h.steps (formula_step tracking t row ts us)))))

-- nothing was done
pub begun_is_reached : (tracking : Bool) (t : Tree) (row : Option RowRef) (ts us : List Known) →
    IsReached tracking (begun (code tracking t [])) t row ts us
begun_is_reached tracking t row ts us = record { compiled = refl; steps = 0; come = refl }

pub begun_is_paused : (t : Tree) (row : Option RowRef) (known : List Known) → IsPaused (begun (code false t [])) t row known
begun_is_paused t row known = begun_is_reached false t row known []

-- the same instructions, of which nothing was done again
pub anew_is_paused : (p : Evaluation) (xs : List Instruction) (t : Tree) (row : Option RowRef) (known : List Known) → IsPaused p t row known →
    xs ≡ p.program → IsPaused (begun xs) t row known
anew_is_paused p xs t row known h same = record { compiled = same ∙ h.compiled; steps = 0; come = refl }

-- so it is whatever was read before, and is known later
pub anew_from : (p q : Evaluation) (t : Tree) (row : Option RowRef) (known later : List Known) → q ≡ begun p.program → IsPaused p t row known →
    IsPaused q t row later
anew_from p q t row known later same h =
    subst (λ (e : Evaluation). IsPaused e t row later) (sym same) (record { compiled = h.compiled; steps = 0; come = refl })

-- one step more
pub reached_on : (tracking : Bool) (p q : Evaluation) (t : Tree) (row : Option RowRef) (ts us : List Known) → IsReached tracking p t row ts us →
    q.program ≡ p.program → on q.machine ≡ stepped p.program row ts us p.machine → IsReached tracking q t row ts us
reached_on tracking p q t row ts us h same next = record {
  compiled = same ∙ h.compiled;
  steps = h.steps + 1;
  come =
      ap (λ (ys : List Instruction). run ys row ts us (h.steps + 1) (on (begin ys))) same
      ∙ (run_more p.program row ts us h.steps 1 (on (begin p.program))
      ∙ (ap (λ z. run p.program row ts us 1 z) h.come ∙ sym next));
}

pub reached_falls : (tracking : Bool) (p q : Evaluation) (t : Tree) (row : Option RowRef) (ts us : List Known) → IsReached tracking p t row ts us →
    on q.machine ≡ stepped p.program row ts us p.machine → measure tracking q t row ts us < measure tracking p t row ts us
reached_falls tracking p q t row ts us h next =
    let xs : List Instruction = code tracking t [] in
    let n : ℕ = (answers tracking t row ts us).steps in
    let there : stepped xs row ts us p.machine ≡ on q.machine
    = ap (λ (ys : List Instruction). stepped ys row ts us p.machine) (sym h.compiled) ∙ sym next in
    subst (λ z. steps_left xs row ts us n z < steps_left xs row ts us n (on p.machine)) there
    (one_less xs row ts us n p.machine (formula_step tracking t row ts us) (comes_to_end tracking p t row ts us h))

-- the last step
pub reached_ends : (tracking : Bool) (p : Evaluation) (s : FormulaStep) (t : Tree) (row : Option RowRef) (ts us : List Known) →
    IsReached tracking p t row ts us → over s ≡ stepped p.program row ts us p.machine → s ≡ formula_step tracking t row ts us
unfolding step_of
reached_ends tracking p s t row ts us h next =
    let xs : List Instruction = code tracking t [] in
    let n : ℕ = (answers tracking t row ts us).steps in
    let there : stepped xs row ts us p.machine ≡ over s
    = ap (λ (ys : List Instruction). stepped ys row ts us p.machine) (sym h.compiled) ∙ sym next in
    let more : run xs row ts us (n + 1) (on p.machine) ≡ over (formula_step tracking t row ts us)
    = run_more xs row ts us n 1 (on p.machine) ∙ ap (λ z. run xs row ts us 1 z) (comes_to_end tracking p t row ts us h) in
    let on_one : n + 1 ≡ suc n = omega arith in
    let less : run xs row ts us (suc n) (on p.machine) ≡ over s = ap (λ z. run xs row ts us n z) there ∙ stays xs row ts us n s in
    ap (step_of s) (sym less ∙ (ap (λ k. run xs row ts us k (on p.machine)) (sym on_one) ∙ more))

-- ---- more is read

known_more : (n : ℕ) (known more : List Known) (v : Value) → known_at n known ≡ Some v → known_at n (known ++ more) ≡ Some v
known_more n [] more v h = absurd (cc)
known_more n (k ∷ ks) more v h = go (k.slot == n) (known_more n ks more v) h
  where
    go : (b : Bool) → (known_at n ks ≡ Some v → known_at n (ks ++ more) ≡ Some v) → (if b then Some k.value else known_at n ks) ≡ Some v →
        (if b then Some k.value else known_at n (ks ++ more)) ≡ Some v
    go true f h = h
    go false f h = f h

-- a value that serves a slot serves it then, too
pub served_more : (tracking : Bool) (n : ℕ) (known more : List Known) (v : Value) → served tracking n known [] ≡ Some v →
    served tracking n (known ++ more) [] ≡ Some v
served_more true n known more v h = known_more n known more v h
served_more false n known more v h = go (known_at n known) (known_at n (known ++ more)) (known_more n known more v) h
  where
    go : (o u : Option Value) → (o ≡ Some v → u ≡ Some v) → option_or o None ≡ Some v → option_or u None ≡ Some v
    go None u f e = absurd (cc)
    go (Some w) u f e = ap (λ z. option_or z None) (f e)

read_more : (n left : ℕ) (tracking : Bool) (m k : Machine) (o u : Option Value) → ((v : Value) → o ≡ Some v → u ≡ Some v) →
    read n tracking o left m ≡ on k → read n tracking u left m ≡ on k
read_more n left tracking m k None u f e = absurd (cc)
read_more n left tracking m k (Some v) u f e = ap (λ z. read n tracking z left m) (f v refl) ∙ e

-- a step that goes on goes on likewise
execute_more : (o : Option Instruction) (left : ℕ) (row : Option RowRef) (known more : List Known) (m k : Machine) →
    executed_at o left row known [] m ≡ on k → executed_at o left row (known ++ more) [] m ≡ on k
execute_more None left row known more m k e = absurd (cc)
execute_more (Some (job.Do a)) left row known more m k e = e
execute_more (Some (job.Read n tracking)) left row known more m k e =
    read_more n left tracking m k (served tracking n known []) (served tracking n (known ++ more) []) (served_more tracking n known more) e

step_more : (xs : List Instruction) (place : Option ℕ) (row : Option RowRef) (known more : List Known) (m k : Machine) →
    stepped_at xs place row known [] m ≡ on k → stepped_at xs place row (known ++ more) [] m ≡ on k
step_more xs None row known more m k e = absurd (cc)
step_more xs (Some n) row known more m k e = execute_more (slice_get xs n) n row known more m k e

further : (xs : List Instruction) (row : Option RowRef) (known more : List Known) (n : ℕ) (m k : Machine) →
    ((h : Machine) → run xs row known [] n (on h) ≡ on k → run xs row (known ++ more) [] n (on h) ≡ on k) →
    (x : Next) → stepped xs row known [] m ≡ x → run xs row known [] n x ≡ on k →
    run xs row (known ++ more) [] n (stepped xs row (known ++ more) [] m) ≡ on k
further xs row known more n m k f (over s) is e = absurd (let no : over s ≡ on k = sym (stays xs row known [] n s) ∙ e in cc)
further xs row known more n m k f (on h) is e =
    ap (λ z. run xs row (known ++ more) [] n z) (step_more xs (before m.left) row known more m h is) ∙ f h e

run_further : (xs : List Instruction) (row : Option RowRef) (known more : List Known) (n : ℕ) (m k : Machine) →
    run xs row known [] n (on m) ≡ on k → run xs row (known ++ more) [] n (on m) ≡ on k
run_further xs row known more zero m k e = e
run_further xs row known more (suc n) m k e =
    further xs row known more n m k (λ h g. run_further xs row known more n h k g) (stepped xs row known [] m) refl e

-- an evaluation that has read some values stands for the same where more are read
pub more_is_paused : (p : Evaluation) (t : Tree) (row : Option RowRef) (known more : List Known) → IsPaused p t row known →
    IsPaused p t row (known ++ more)
more_is_paused p t row known more h = record {
  compiled = h.compiled;
  steps = h.steps;
  come = run_further p.program row known more h.steps (begin p.program) p.machine h.come;
}

-- what a formula comes to, told by its place
pub end_told : (o : Outcome) → step_by None o ≡ plain_step (End o)
end_told (Good v) = refl
end_told (Bad e) = refl
