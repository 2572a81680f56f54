-- The machine comes to what the formula answers.
use Rattle.std.proofs.Common.{arith, ◌≡◌, ◌∙◌, ◌+◌, ◌-◌, ◌<◌, ◌++◌, ℕ, zero, suc, Bool, true, false, List, [], ◌∷◌, Option, Some, None, append_assoc, ap, sym, subst, refl, length, length-append, drop, nat_lt}
use Rattle.std.specs.Prelude.{slice_get, pos}
use Rattle.std.proofs.Math.Seq.{get_or-append_seam}
use Rattle.std.proofs.lemmas.Bool.{le-ltb, lt-ltb}
use Rattle.std.proofs.lemmas.List.{drop-drop, length-drop}
use Rattle.std.proofs.lemmas.Option.{slice_get-get_or}
use Rattle.sig_base.specs.Tables.{Table, marked}
use Rattle.sig_base.specs.Values.{scalar_value}
use Rattle.sig_base.specs.declared.rows.Row.{Row}
use Rattle.sig_base.specs.declared.value.Value.{Value}
use Rattle.sig_base.specs.declared.value.Value.TheVariants as value
use Rattle.sig_base.specs.declared.value.Known.{Known}
use Rattle.sig_base.specs.declared.value.Outcome.{Outcome}
use Rattle.sig_base.specs.declared.value.Outcome.TheVariants.{Good, Bad}
use Rattle.sig_formula.specs.declared.formula.BinOp.{BinOp}
use Rattle.sig_formula.specs.declared.formula.BinOp.TheVariants as op
use Rattle.sig_formula.specs.declared.formula.RowRef.{RowRef}
use Rattle.sig_formula.specs.declared.evaluate.FormulaStep.{FormulaStep}
use Rattle.sig_formula.specs.declared.evaluate.FormulaStep.TheVariants.{Ask, End}
use Rattle.sig_formula.specs.declared.program.Act.TheVariants as act
use Rattle.sig_formula.specs.declared.program.Gathering.TheVariants.{Sum, Keep}
use Rattle.sig_formula.specs.declared.program.Instruction.{Instruction}
use Rattle.sig_formula.specs.declared.program.Instruction.TheVariants as job
use Rattle.sig_formula.specs.declared.rounds.Adding.{Adding}
use Rattle.sig_formula.specs.declared.rounds.Going.{Going}
use Rattle.sig_formula.specs.declared.rounds.Going.TheVariants as going
use Rattle.sig_formula.specs.declared.rounds.Round.{Round}
use Rattle.sig_formula.specs.Evaluation.{calculation, chosen, count_outcome, decided, field_outcome, formula_step, kept_from, key_outcome, negated, operated, row_at}
use Rattle.sig_formula.specs.Evaluation.{served, slot_step, sum_from, unless_decided, with_rows, with_truth, with_value}
use Rattle.sig_formula.specs.Marked.{MarkedRows}
use Rattle.sig_formula.specs.Programs.{code, with_decision}
use Rattle.sig_formula.specs.Machines.{Machine, Next, over, on, added, after_rows, after_test, arrived, before, begin, executed, executed_at, given, is_within, kept, made, read}
use Rattle.sig_formula.specs.Machines.{row_at_hand, row_of, row_where, run, settled, stepped, stepped_at, turned, used, used_within}
use Rattle.sig_formula.specs.Trees.{Tree, literal, slot, row_field, row_key, negation, binary, choice, count_of, sum_of, rows_where, untracked}

-- a machine at a place
abbrev pub at : ℕ → List Value → List Round → Machine
at left values rounds = record { left = left; values = values; rounds = rounds }

-- what it comes to with a step: behind a part with its value, or over
abbrev pub goes : FormulaStep → (Value → Machine) → Next
goes (Ask n tracked) go = over (Ask n tracked)
goes (End (Good v)) go = on (go v)
goes (End (Bad e)) go = over (End (Bad e))

long : (ys : List Instruction) (i : Instruction) → length (ys ++ i ∷ []) ≡ suc (length ys)
long ys i = omega (arith, length-append ys (i ∷ []))

got : (ys : List Instruction) (i : Instruction) (rest : List Instruction) → slice_get (ys ++ i ∷ rest) (length ys) ≡ Some i
got ys i rest =
    let within : length ys < length (ys ++ i ∷ rest) = omega (arith, length-append ys (i ∷ rest)) in
    slice_get-get_or (ys ++ i ∷ rest) (length ys) i within ∙ ap Some (get_or-append_seam ys i rest i)

-- of a list that begins with others
record IsFront (xs ys : List Instruction) : Type 0 where
  rest : List Instruction
  is : xs ≡ ys ++ rest

shorter : (xs ys zs : List Instruction) → IsFront xs (ys ++ zs) → IsFront xs ys
shorter xs ys zs f = record { rest = zs ++ f.rest; is = f.is ∙ append_assoc ys zs f.rest }

undecided : (xs : List Instruction) (o : BinOp) (end : ℕ) (ys : List Instruction) → IsFront xs (with_decision o end ys) → IsFront xs ys
undecided xs op.Or end ys f = shorter xs ys (job.Do (act.Decide op.Or end) ∷ []) f
undecided xs op.And end ys f = shorter xs ys (job.Do (act.Decide op.And end) ∷ []) f
undecided xs op.Eq end ys f = f
undecided xs op.Ne end ys f = f
undecided xs op.Lt end ys f = f
undecided xs op.Le end ys f = f
undecided xs op.Gt end ys f = f
undecided xs op.Ge end ys f = f
undecided xs op.Join end ys f = f
undecided xs op.Add end ys f = f
undecided xs op.Sub end ys f = f
undecided xs op.Mul end ys f = f
undecided xs op.Div end ys f = f
undecided xs op.Rem end ys f = f

-- what begins with the instructions of a formula begins with those behind them
behind : (xs : List Instruction) (tracking : Bool) (t : Tree) (ys : List Instruction) → IsFront xs (code tracking t ys) → IsFront xs ys
behind xs tracking (literal s) ys f = shorter xs ys (job.Do (act.Lit s) ∷ []) f
behind xs tracking (slot n) ys f = shorter xs ys (job.Read n tracking ∷ []) f
behind xs tracking (row_field g) ys f = shorter xs ys (job.Do (act.It g) ∷ []) f
behind xs tracking row_key ys f = shorter xs ys (job.Do act.ItKey ∷ []) f
behind xs tracking (negation a) ys f = shorter xs ys (job.Do act.Not ∷ []) (behind xs tracking a (ys ++ job.Do act.Not ∷ []) f)
behind xs tracking (binary o a b) ys f =
    let zs = code tracking b (ys ++ job.Do (act.Operate o) ∷ []) in
    shorter xs ys (job.Do (act.Operate o) ∷ []) (behind xs tracking b (ys ++ job.Do (act.Operate o) ∷ []) (undecided xs o (length ys) zs (behind xs tracking a (with_decision o (length ys) zs) f)))
behind xs tracking (choice t a b) ys f =
    let zs = code tracking b ys in
    let os = code tracking a (zs ++ job.Do (act.Skip (length ys)) ∷ []) in
    behind xs tracking b ys (shorter xs zs (job.Do (act.Skip (length ys)) ∷ []) (behind xs tracking a (zs ++ job.Do (act.Skip (length ys)) ∷ [])
    (shorter xs os (job.Do (act.Test (length zs)) ∷ []) (behind xs tracking t (os ++ job.Do (act.Test (length zs)) ∷ []) f))))
behind xs tracking (count_of a) ys f = shorter xs ys (job.Do act.Count ∷ []) (behind xs tracking a (ys ++ job.Do act.Count ∷ []) f)
behind xs tracking (sum_of a b) ys f =
    let bs = code tracking b (ys ++ job.Do act.Next ∷ []) in
    shorter xs ys (job.Do act.Next ∷ []) (behind xs tracking b (ys ++ job.Do act.Next ∷ [])
    (shorter xs bs (job.Do (act.Begin Sum (length ys)) ∷ []) (behind xs tracking a (bs ++ job.Do (act.Begin Sum (length ys)) ∷ []) f)))
behind xs tracking (rows_where a b) ys f =
    let bs = code tracking b (ys ++ job.Do act.Next ∷ []) in
    shorter xs ys (job.Do act.Next ∷ []) (behind xs tracking b (ys ++ job.Do act.Next ∷ [])
    (shorter xs bs (job.Do (act.Begin Keep (length ys)) ∷ []) (behind xs tracking a (bs ++ job.Do (act.Begin Keep (length ys)) ∷ []) f)))
behind xs tracking (untracked a) ys f = behind xs false a ys f

none_within : {A : Type 0} (xs : List A) (n : ℕ) → drop n xs ≡ [] → nat_lt n (length xs) ≡ false
none_within xs n e =
    let left : length (drop n xs) ≡ 0 = ap length e in
    let count : length (drop n xs) ≡ length xs - n = length-drop n xs in
    le-ltb n (length xs) (omega (arith, left, count))

one_within : {A : Type 0} (xs : List A) (n : ℕ) (x : A) (rest : List A) → drop n xs ≡ x ∷ rest → nat_lt n (length xs) ≡ true
one_within xs n x rest e =
    let left : length (drop n xs) ≡ suc (length rest) = ap length e in
    let count : length (drop n xs) ≡ length xs - n = length-drop n xs in
    lt-ltb n (length xs) (omega (arith, left, count))

next_drop : {A : Type 0} (xs : List A) (n : ℕ) (x : A) (rest : List A) → drop n xs ≡ x ∷ rest → drop (n + 1) xs ≡ rest
next_drop xs n x rest e = sym (drop-drop 1 n xs) ∙ ap (drop 1) e

module _ (xs : List Instruction) (row : Option RowRef) (ts us : List Known) where
  -- the machine comes to a step
  record Comes (x : Next) (s : FormulaStep) (go : Value → Machine) : Type 0 where
    steps : ℕ
    is : run xs row ts us steps x ≡ goes s go

  -- what is over stays over
  pub stays : (k : ℕ) (s : FormulaStep) → run xs row ts us k (over s) ≡ over s
  stays zero s = refl
  stays (suc k) s = refl

  one_more : (m n : ℕ) (x : Next) → ((k : Machine) → run xs row ts us (m + n) (stepped xs row ts us k) ≡ run xs row ts us n (run xs row ts us m (stepped xs row ts us k))) →
      run xs row ts us (suc (m + n)) x ≡ run xs row ts us n (run xs row ts us (suc m) x)
  one_more m n (over s) f = sym (stays n s)
  one_more m n (on k) f = f k

  -- so many steps, and more
  pub run_more : (m n : ℕ) (x : Next) → run xs row ts us (m + n) x ≡ run xs row ts us n (run xs row ts us m x)
  run_more zero n x = let e : zero + n ≡ n = omega arith in ap (λ k. run xs row ts us k x) e
  run_more (suc m) n x =
      let e : suc m + n ≡ suc (m + n) = omega arith in
      ap (λ k. run xs row ts us k x) e ∙ one_more m n x (λ k. run_more m n (stepped xs row ts us k))

  alike : (x y : Next) (s : FormulaStep) (go : Value → Machine) → x ≡ y → Comes y s go → Comes x s go
  alike x y s go e c = record { steps = c.steps; is = ap (λ z. run xs row ts us c.steps z) e ∙ c.is }

  steps_on : (m : Machine) (y : Next) (s : FormulaStep) (go : Value → Machine) → stepped xs row ts us m ≡ y → Comes y s go → Comes (on m) s go
  steps_on m y s go e c = record { steps = suc c.steps; is = ap (λ z. run xs row ts us c.steps z) e ∙ c.is }

  -- a part that comes to a value, and what follows it
  follows : (x : Next) (s : FormulaStep) (f : Value → Machine) (g : Value → FormulaStep) (h : Value → Machine) → Comes x s f →
      ((v : Value) → Comes (on (f v)) (g v) h) → Comes x (with_value s g) h
  follows x (Ask n b) f g h c d = record { steps = c.steps; is = c.is }
  follows x (End (Bad e)) f g h c d = record { steps = c.steps; is = c.is }
  follows x (End (Good v)) f g h c d = record {
    steps = c.steps + (d v).steps;
    is = run_more c.steps (d v).steps x ∙ (ap (λ z. run xs row ts us (d v).steps z) c.is ∙ (d v).is);
  }

  -- a part whose value stays
  passes : (x : Next) (s : FormulaStep) (f h : Value → Machine) → Comes x s f → ((v : Value) → Comes (on (f v)) (End (Good v)) h) → Comes x s h
  passes x (Ask n b) f h c d = record { steps = c.steps; is = c.is }
  passes x (End (Bad e)) f h c d = record { steps = c.steps; is = c.is }
  passes x (End (Good v)) f h c d = record {
    steps = c.steps + (d v).steps;
    is = run_more c.steps (d v).steps x ∙ (ap (λ z. run xs row ts us (d v).steps z) c.is ∙ (d v).is);
  }

  gives : (o : Outcome) (left m : ℕ) (values : List Value) (rounds : List Round) →
      Comes (given o left (at m values rounds)) (End o) (λ v. at left (v ∷ values) rounds)
  gives (Good v) left m values rounds = record { steps = 0; is = refl }
  gives (Bad e) left m values rounds = record { steps = 0; is = refl }

  -- the instruction at a place
  does : (ys : List Instruction) (i : Instruction) (values : List Value) (rounds : List Round) → IsFront xs (ys ++ i ∷ []) →
      stepped xs row ts us (at (length (ys ++ i ∷ [])) values rounds) ≡ executed i (length ys) row ts us (at (length (ys ++ i ∷ [])) values rounds)
  does ys i values rounds f =
      let m = at (length (ys ++ i ∷ [])) values rounds in
      let there : slice_get xs (length ys) ≡ Some i
      = ap (λ zs. slice_get zs (length ys)) (f.is ∙ append_assoc ys (i ∷ []) f.rest) ∙ got ys i f.rest in
      ap (λ n. stepped_at xs (before n) row ts us m) (long ys i) ∙ ap (λ o. executed_at o (length ys) row ts us m) there

  one : (ys : List Instruction) (i : Instruction) (values : List Value) (rounds : List Round) (s : FormulaStep) (go : Value → Machine) →
      IsFront xs (ys ++ i ∷ []) → Comes (executed i (length ys) row ts us (at (length (ys ++ i ∷ [])) values rounds)) s go →
      Comes (on (at (length (ys ++ i ∷ [])) values rounds)) s go
  one ys i values rounds s go f c =
      steps_on (at (length (ys ++ i ∷ [])) values rounds) (executed i (length ys) row ts us (at (length (ys ++ i ∷ [])) values rounds)) s go
      (does ys i values rounds f) c

  reads : (n : ℕ) (tracking : Bool) (o : Option Value) (left m : ℕ) (values : List Value) (rounds : List Round) →
      Comes (read n tracking o left (at m values rounds)) (slot_step tracking n o) (λ v. at left (v ∷ values) rounds)
  reads n tracking None left m values rounds = record { steps = 0; is = refl }
  reads n tracking (Some v) left m values rounds = record { steps = 0; is = refl }

  settles : (d : Option Outcome) (v : Value) (end left m : ℕ) (values : List Value) (rounds : List Round) (s : FormulaStep) →
      Comes (on (at left (v ∷ values) rounds)) s (λ w. at end (w ∷ values) rounds) →
      Comes (settled d v end left (at m values rounds)) (unless_decided d s) (λ w. at end (w ∷ values) rounds)
  settles None v end left m values rounds s c = c
  settles (Some o) v end left m values rounds s c = gives o end m values rounds

  -- what the left operand decides, or else the right one
  decision : (o : BinOp) (end : ℕ) (ws : List Instruction) (v : Value) (values : List Value) (rounds : List Round) (s : FormulaStep) →
      IsFront xs (with_decision o end ws) → Comes (on (at (length ws) (v ∷ values) rounds)) s (λ w. at end (w ∷ values) rounds) →
      Comes (on (at (length (with_decision o end ws)) (v ∷ values) rounds)) (unless_decided (decided o v) s) (λ w. at end (w ∷ values) rounds)
  decision op.Or end ws v values rounds s f c =
      one ws (job.Do (act.Decide op.Or end)) (v ∷ values) rounds (unless_decided (decided op.Or v) s) (λ w. at end (w ∷ values) rounds) f
      (settles (decided op.Or v) v end (length ws) (length (ws ++ job.Do (act.Decide op.Or end) ∷ [])) values rounds s c)
  decision op.And end ws v values rounds s f c =
      one ws (job.Do (act.Decide op.And end)) (v ∷ values) rounds (unless_decided (decided op.And v) s) (λ w. at end (w ∷ values) rounds) f
      (settles (decided op.And v) v end (length ws) (length (ws ++ job.Do (act.Decide op.And end) ∷ [])) values rounds s c)
  decision op.Eq end ws v values rounds s f c = c
  decision op.Ne end ws v values rounds s f c = c
  decision op.Lt end ws v values rounds s f c = c
  decision op.Le end ws v values rounds s f c = c
  decision op.Gt end ws v values rounds s f c = c
  decision op.Ge end ws v values rounds s f c = c
  decision op.Join end ws v values rounds s f c = c
  decision op.Add end ws v values rounds s f c = c
  decision op.Sub end ws v values rounds s f c = c
  decision op.Mul end ws v values rounds s f c = c
  decision op.Div end ws v values rounds s f c = c
  decision op.Rem end ws v values rounds s f c = c

  branches : (v : Value) (other left m : ℕ) (values : List Value) (rounds : List Round) (a b : FormulaStep) (go : Value → Machine) →
      Comes (on (at left values rounds)) a go → Comes (on (at other values rounds)) b go →
      Comes (after_test (Some v) other left (at m values rounds)) (chosen v a b) go
  branches (value.Bool true) other left m values rounds a b go ca cb = ca
  branches (value.Bool false) other left m values rounds a b go ca cb = cb
  branches (value.Int n) other left m values rounds a b go ca cb = record { steps = 0; is = refl }
  branches (value.Text n) other left m values rounds a b go ca cb = record { steps = 0; is = refl }
  branches (value.Rows n) other left m values rounds a b go ca cb = record { steps = 0; is = refl }

  -- the rows of a round, with what its part comes to
  module _ (part : Tree) (tracking : Bool) (ys : List Instruction) (body : ℕ) (values : List Value) (rounds : List Round) (front : IsFront xs (ys ++ job.Do act.Next ∷ []))
      (each : (g : Going) → Comes (on (at body values (record { going = g; body = body } ∷ rounds))) (formula_step tracking part (row_of g) ts us)
      (λ v. at (length (ys ++ job.Do act.Next ∷ [])) (v ∷ values) (record { going = g; body = body } ∷ rounds))) where
    -- the part of a row, and what follows it
    turn : (g : Going) (n m : ℕ) (t : Table) (f : Value → FormulaStep) → is_within g ≡ true → row_where true t n ≡ row_of g →
        ((v : Value) → Comes (used g v body (length ys) (at (length (ys ++ job.Do act.Next ∷ [])) values rounds)) (f v) (λ w. at (length ys) (w ∷ values) rounds)) →
        Comes (arrived g body (length ys) (at m values rounds)) (with_value (formula_step tracking part (row_at t n) ts us) f) (λ w. at (length ys) (w ∷ values) rounds)
    turn g n m t f within is c =
        let h : Value → Machine = λ w. at (length ys) (w ∷ values) rounds in
        let e : formula_step tracking part (row_of g) ts us ≡ formula_step tracking part (row_at t n) ts us
        = ap (λ r. formula_step tracking part r ts us) (sym is) in
        let first : Comes (on (at body values (record { going = g; body = body } ∷ rounds))) (formula_step tracking part (row_at t n) ts us)
        (λ v. at (length (ys ++ job.Do act.Next ∷ [])) (v ∷ values) (record { going = g; body = body } ∷ rounds))
        = subst (λ s. Comes (on (at body values (record { going = g; body = body } ∷ rounds))) s
        (λ v. at (length (ys ++ job.Do act.Next ∷ [])) (v ∷ values) (record { going = g; body = body } ∷ rounds))) e (each g) in
        alike (arrived g body (length ys) (at m values rounds)) (on (at body values (record { going = g; body = body } ∷ rounds)))
        (with_value (formula_step tracking part (row_at t n) ts us) f) h
        (ap (λ b. turned b g body (length ys) (at m values rounds)) within)
        (follows (on (at body values (record { going = g; body = body } ∷ rounds))) (formula_step tracking part (row_at t n) ts us)
        (λ v. at (length (ys ++ job.Do act.Next ∷ [])) (v ∷ values) (record { going = g; body = body } ∷ rounds)) f h first
        (λ v. one ys (job.Do act.Next) (v ∷ values) (record { going = g; body = body } ∷ rounds) (f v) h front
        (alike (used_within (is_within g) g v body (length ys) (at (length (ys ++ job.Do act.Next ∷ [])) values rounds))
        (used g v body (length ys) (at (length (ys ++ job.Do act.Next ∷ [])) values rounds)) (f v) h
        (ap (λ b. used_within b g v body (length ys) (at (length (ys ++ job.Do act.Next ∷ [])) values rounds)) within) (c v))))

    last : (g : Going) (m : ℕ) (s : FormulaStep) → is_within g ≡ false →
        Comes (given (Good (made g)) (length ys) (at m values rounds)) s (λ w. at (length ys) (w ∷ values) rounds) →
        Comes (arrived g body (length ys) (at m values rounds)) s (λ w. at (length ys) (w ∷ values) rounds)
    last g m s without c =
        alike (arrived g body (length ys) (at m values rounds)) (turned false g body (length ys) (at m values rounds)) s (λ w. at (length ys) (w ∷ values) rounds)
        (ap (λ b. turned b g body (length ys) (at m values rounds)) without) c

    adding : (a : Adding) (o : Outcome) (m : ℕ) (f : Value → FormulaStep) →
        ((sum : Value) → Comes (arrived (going.Adding (record { rows = a.rows; place = a.place + 1; sum = sum })) body (length ys) (at m values rounds)) (f sum)
        (λ w. at (length ys) (w ∷ values) rounds)) →
        Comes (added a o body (length ys) (at m values rounds)) (with_value (End o) f) (λ w. at (length ys) (w ∷ values) rounds)
    adding a (Good sum) m f c = c sum
    adding a (Bad e) m f c = record { steps = 0; is = refl }

    keeping : (k : MarkedRows) (v : Value) (m : ℕ) (f : Bool → FormulaStep) →
        ((b : Bool) → Comes (arrived (going.Keeping (record { rows = k.rows; marks = k.marks ++ b ∷ [] })) body (length ys) (at m values rounds)) (f b)
        (λ w. at (length ys) (w ∷ values) rounds)) →
        Comes (kept k v body (length ys) (at m values rounds)) (with_truth v f) (λ w. at (length ys) (w ∷ values) rounds)
    keeping k (value.Bool b) m f c = c b
    keeping k (value.Int n) m f c = record { steps = 0; is = refl }
    keeping k (value.Text n) m f c = record { steps = 0; is = refl }
    keeping k (value.Rows n) m f c = record { steps = 0; is = refl }

    sums : (t : Table) (rs : List Row) (sum : Value) (n m : ℕ) → drop n t.rows ≡ rs →
        Comes (arrived (going.Adding (record { rows = t; place = n; sum = sum })) body (length ys) (at m values rounds))
        (sum_from (λ k. formula_step tracking part (row_at t k) ts us) sum n rs) (λ w. at (length ys) (w ∷ values) rounds)
    sums t [] sum n m e =
        last (going.Adding (record { rows = t; place = n; sum = sum })) m (End (Good sum)) (none_within t.rows n e)
        (gives (Good sum) (length ys) m values rounds)
    sums t (r ∷ rs) sum n m e =
        let within : nat_lt n (length t.rows) ≡ true = one_within t.rows n r rs e in
        let next : ℕ = length (ys ++ job.Do act.Next ∷ []) in
        turn (going.Adding (record { rows = t; place = n; sum = sum })) n m t
        (λ v. with_value (End (calculation op.Add sum v)) (λ w. sum_from (λ k. formula_step tracking part (row_at t k) ts us) w (n + 1) rs))
        within (sym (ap (λ b. row_where b t n) within))
        (λ v. adding (record { rows = t; place = n; sum = sum }) (calculation op.Add sum v) next
        (λ w. sum_from (λ k. formula_step tracking part (row_at t k) ts us) w (n + 1) rs)
        (λ w. sums t rs w (n + 1) next (next_drop t.rows n r rs e)))

    keeps : (t : Table) (rs : List Row) (marks : List Bool) (n m : ℕ) → length marks ≡ n → drop n t.rows ≡ rs →
        Comes (arrived (going.Keeping (record { rows = t; marks = marks })) body (length ys) (at m values rounds))
        (kept_from (λ k. formula_step tracking part (row_at t k) ts us) t marks n rs) (λ w. at (length ys) (w ∷ values) rounds)
    keeps t [] marks n m l e =
        last (going.Keeping (record { rows = t; marks = marks })) m (End (Good (value.Rows (record { fields = t.fields; rows = marked marks t.rows }))))
        (ap (λ k. nat_lt k (length t.rows)) l ∙ none_within t.rows n e)
        (gives (Good (value.Rows (record { fields = t.fields; rows = marked marks t.rows }))) (length ys) m values rounds)
    keeps t (r ∷ rs) marks n m l e =
        let within : nat_lt (length marks) (length t.rows) ≡ true = ap (λ k. nat_lt k (length t.rows)) l ∙ one_within t.rows n r rs e in
        let next : ℕ = length (ys ++ job.Do act.Next ∷ []) in
        turn (going.Keeping (record { rows = t; marks = marks })) n m t
        (λ v. with_truth v (λ b. kept_from (λ k. formula_step tracking part (row_at t k) ts us) t (marks ++ b ∷ []) (n + 1) rs))
        within (sym (ap (λ b. row_where b t (length marks)) within ∙ ap (λ k. row_where true t k) l))
        (λ v. keeping (record { rows = t; marks = marks }) v next
        (λ b. kept_from (λ k. formula_step tracking part (row_at t k) ts us) t (marks ++ b ∷ []) (n + 1) rs)
        (λ b. keeps t rs (marks ++ b ∷ []) (n + 1) next (length-append marks (b ∷ []) ∙ ap (λ k. k + 1) l) (next_drop t.rows n r rs e)))

    -- what must be rows
    sums_of : (v : Value) (m : ℕ) →
        Comes (after_rows Sum (Some v) (length ys) body (at m values rounds))
        (with_rows v (λ t. sum_from (λ k. formula_step tracking part (row_at t k) ts us) (value.Int (pos 0)) 0 t.rows)) (λ w. at (length ys) (w ∷ values) rounds)
    sums_of (value.Rows t) m = sums t t.rows (value.Int (pos 0)) 0 m refl
    sums_of (value.Int n) m = record { steps = 0; is = refl }
    sums_of (value.Text n) m = record { steps = 0; is = refl }
    sums_of (value.Bool n) m = record { steps = 0; is = refl }

    keeps_of : (v : Value) (m : ℕ) →
        Comes (after_rows Keep (Some v) (length ys) body (at m values rounds))
        (with_rows v (λ t. kept_from (λ k. formula_step tracking part (row_at t k) ts us) t [] 0 t.rows)) (λ w. at (length ys) (w ∷ values) rounds)
    keeps_of (value.Rows t) m = keeps t t.rows [] 0 m refl refl
    keeps_of (value.Int n) m = record { steps = 0; is = refl }
    keeps_of (value.Text n) m = record { steps = 0; is = refl }
    keeps_of (value.Bool n) m = record { steps = 0; is = refl }

  -- what the machine comes to from the first of the instructions of a formula
  compiled : (tracking : Bool) (t : Tree) (ys : List Instruction) → IsFront xs (code tracking t ys) → (values : List Value) (rounds : List Round) →
      Comes (on (at (length (code tracking t ys)) values rounds)) (formula_step tracking t (row_at_hand rounds row) ts us) (λ v. at (length ys) (v ∷ values) rounds)
  compiled tracking (literal s) ys f values rounds =
      one ys (job.Do (act.Lit s)) values rounds (End (Good (scalar_value s))) (λ v. at (length ys) (v ∷ values) rounds) f
      (gives (Good (scalar_value s)) (length ys) (length (ys ++ job.Do (act.Lit s) ∷ [])) values rounds)
  compiled tracking (slot n) ys f values rounds =
      one ys (job.Read n tracking) values rounds (slot_step tracking n (served tracking n ts us)) (λ v. at (length ys) (v ∷ values) rounds) f
      (reads n tracking (served tracking n ts us) (length ys) (length (ys ++ job.Read n tracking ∷ [])) values rounds)
  compiled tracking (row_field g) ys f values rounds =
      one ys (job.Do (act.It g)) values rounds (End (field_outcome g (row_at_hand rounds row))) (λ v. at (length ys) (v ∷ values) rounds) f
      (gives (field_outcome g (row_at_hand rounds row)) (length ys) (length (ys ++ job.Do (act.It g) ∷ [])) values rounds)
  compiled tracking row_key ys f values rounds =
      one ys (job.Do act.ItKey) values rounds (End (key_outcome (row_at_hand rounds row))) (λ v. at (length ys) (v ∷ values) rounds) f
      (gives (key_outcome (row_at_hand rounds row)) (length ys) (length (ys ++ job.Do act.ItKey ∷ [])) values rounds)
  compiled tracking (negation a) ys f values rounds =
      follows (on (at (length (code tracking a (ys ++ job.Do act.Not ∷ []))) values rounds)) (formula_step tracking a (row_at_hand rounds row) ts us)
      (λ v. at (length (ys ++ job.Do act.Not ∷ [])) (v ∷ values) rounds) (λ v. End (negated v)) (λ v. at (length ys) (v ∷ values) rounds)
      (compiled tracking a (ys ++ job.Do act.Not ∷ []) f values rounds)
      (λ v. one ys (job.Do act.Not) (v ∷ values) rounds (End (negated v)) (λ w. at (length ys) (w ∷ values) rounds) (behind xs tracking a (ys ++ job.Do act.Not ∷ []) f)
      (gives (negated v) (length ys) (length (ys ++ job.Do act.Not ∷ [])) values rounds))
  compiled tracking (binary o a b) ys f values rounds =
      let r : Option RowRef = row_at_hand rounds row in
      let bs : List Instruction = code tracking b (ys ++ job.Do (act.Operate o) ∷ []) in
      let zs : List Instruction = with_decision o (length ys) bs in
      let h : Value → Machine = λ v. at (length ys) (v ∷ values) rounds in
      let fz : IsFront xs zs = behind xs tracking a zs f in
      let fb : IsFront xs bs = undecided xs o (length ys) bs fz in
      let fo : IsFront xs (ys ++ job.Do (act.Operate o) ∷ []) = behind xs tracking b (ys ++ job.Do (act.Operate o) ∷ []) fb in
      follows (on (at (length (code tracking a zs)) values rounds)) (formula_step tracking a r ts us) (λ v. at (length zs) (v ∷ values) rounds)
      (λ v. unless_decided (decided o v) (with_value (formula_step tracking b r ts us) (λ w. End (operated o v w)))) h
      (compiled tracking a zs f values rounds)
      (λ v. decision o (length ys) bs v values rounds (with_value (formula_step tracking b r ts us) (λ w. End (operated o v w))) fz
      (follows (on (at (length bs) (v ∷ values) rounds)) (formula_step tracking b r ts us) (λ w. at (length (ys ++ job.Do (act.Operate o) ∷ [])) (w ∷ v ∷ values) rounds)
      (λ w. End (operated o v w)) h (compiled tracking b (ys ++ job.Do (act.Operate o) ∷ []) fb (v ∷ values) rounds)
      (λ w. one ys (job.Do (act.Operate o)) (w ∷ v ∷ values) rounds (End (operated o v w)) h fo
      (gives (operated o v w) (length ys) (length (ys ++ job.Do (act.Operate o) ∷ [])) values rounds))))
  compiled tracking (choice t a b) ys f values rounds =
      let r : Option RowRef = row_at_hand rounds row in
      let zs : List Instruction = code tracking b ys in
      let ks : List Instruction = zs ++ job.Do (act.Skip (length ys)) ∷ [] in
      let os : List Instruction = code tracking a ks in
      let qs : List Instruction = os ++ job.Do (act.Test (length zs)) ∷ [] in
      let h : Value → Machine = λ v. at (length ys) (v ∷ values) rounds in
      let fq : IsFront xs qs = behind xs tracking t qs f in
      let fo : IsFront xs os = shorter xs os (job.Do (act.Test (length zs)) ∷ []) fq in
      let fk : IsFront xs ks = behind xs tracking a ks fo in
      let fb : IsFront xs zs = shorter xs zs (job.Do (act.Skip (length ys)) ∷ []) fk in
      follows (on (at (length (code tracking t qs)) values rounds)) (formula_step tracking t r ts us) (λ v. at (length qs) (v ∷ values) rounds)
      (λ v. chosen v (formula_step tracking a r ts us) (formula_step tracking b r ts us)) h
      (compiled tracking t qs f values rounds)
      (λ v. one os (job.Do (act.Test (length zs))) (v ∷ values) rounds (chosen v (formula_step tracking a r ts us) (formula_step tracking b r ts us)) h fq
      (branches v (length zs) (length os) (length qs) values rounds (formula_step tracking a r ts us) (formula_step tracking b r ts us) h
      (passes (on (at (length os) values rounds)) (formula_step tracking a r ts us) (λ w. at (length ks) (w ∷ values) rounds) h
      (compiled tracking a ks fo values rounds)
      (λ w. one zs (job.Do (act.Skip (length ys))) (w ∷ values) rounds (End (Good w)) h fk (record { steps = 0; is = refl })))
      (compiled tracking b ys fb values rounds)))
  compiled tracking (count_of a) ys f values rounds =
      follows (on (at (length (code tracking a (ys ++ job.Do act.Count ∷ []))) values rounds)) (formula_step tracking a (row_at_hand rounds row) ts us)
      (λ v. at (length (ys ++ job.Do act.Count ∷ [])) (v ∷ values) rounds) (λ v. End (count_outcome v)) (λ v. at (length ys) (v ∷ values) rounds)
      (compiled tracking a (ys ++ job.Do act.Count ∷ []) f values rounds)
      (λ v. one ys (job.Do act.Count) (v ∷ values) rounds (End (count_outcome v)) (λ w. at (length ys) (w ∷ values) rounds) (behind xs tracking a (ys ++ job.Do act.Count ∷ []) f)
      (gives (count_outcome v) (length ys) (length (ys ++ job.Do act.Count ∷ [])) values rounds))
  compiled tracking (sum_of a b) ys f values rounds =
      let r : Option RowRef = row_at_hand rounds row in
      let ns : List Instruction = ys ++ job.Do act.Next ∷ [] in
      let bs : List Instruction = code tracking b ns in
      let zs : List Instruction = bs ++ job.Do (act.Begin Sum (length ys)) ∷ [] in
      let h : Value → Machine = λ v. at (length ys) (v ∷ values) rounds in
      let s : Value → FormulaStep = λ v. with_rows v (λ t. sum_from (λ k. formula_step tracking b (row_at t k) ts us) (value.Int (pos 0)) 0 t.rows) in
      let fz : IsFront xs zs = behind xs tracking a zs f in
      let fb : IsFront xs bs = shorter xs bs (job.Do (act.Begin Sum (length ys)) ∷ []) fz in
      let f_next : IsFront xs ns = behind xs tracking b ns fb in
      follows (on (at (length (code tracking a zs)) values rounds)) (formula_step tracking a r ts us) (λ v. at (length zs) (v ∷ values) rounds) s h
      (compiled tracking a zs f values rounds)
      (λ v. one bs (job.Do (act.Begin Sum (length ys))) (v ∷ values) rounds (s v) h fz
      (sums_of b tracking ys (length bs) values rounds f_next (λ g. compiled tracking b ns fb values (record { going = g; body = length bs } ∷ rounds)) v (length zs)))
  compiled tracking (rows_where a b) ys f values rounds =
      let r : Option RowRef = row_at_hand rounds row in
      let ns : List Instruction = ys ++ job.Do act.Next ∷ [] in
      let bs : List Instruction = code tracking b ns in
      let zs : List Instruction = bs ++ job.Do (act.Begin Keep (length ys)) ∷ [] in
      let h : Value → Machine = λ v. at (length ys) (v ∷ values) rounds in
      let s : Value → FormulaStep = λ v. with_rows v (λ t. kept_from (λ k. formula_step tracking b (row_at t k) ts us) t [] 0 t.rows) in
      let fz : IsFront xs zs = behind xs tracking a zs f in
      let fb : IsFront xs bs = shorter xs bs (job.Do (act.Begin Keep (length ys)) ∷ []) fz in
      let f_next : IsFront xs ns = behind xs tracking b ns fb in
      follows (on (at (length (code tracking a zs)) values rounds)) (formula_step tracking a r ts us) (λ v. at (length zs) (v ∷ values) rounds) s h
      (compiled tracking a zs f values rounds)
      (λ v. one bs (job.Do (act.Begin Keep (length ys))) (v ∷ values) rounds (s v) h fz
      (keeps_of b tracking ys (length bs) values rounds f_next (λ g. compiled tracking b ns fb values (record { going = g; body = length bs } ∷ rounds)) v (length zs)))
  compiled tracking (untracked a) ys f values rounds = compiled false a ys f values rounds

  -- with no instruction left the evaluation is over
  pub record Ends (x : Next) (s : FormulaStep) : Type 0 where
    pub steps : ℕ
    pub is : run xs row ts us steps x ≡ over s

  finishes : (x : Next) (s : FormulaStep) → Comes x s (λ v. at 0 (v ∷ []) []) → Ends x s
  finishes x (Ask n b) c = record { steps = c.steps; is = c.is }
  finishes x (End (Bad e)) c = record { steps = c.steps; is = c.is }
  finishes x (End (Good v)) c = record { steps = c.steps + 1; is = run_more c.steps 1 x ∙ ap (λ z. run xs row ts us 1 z) c.is }

-- the instructions of a formula come to what it answers
pub answers : (tracking : Bool) (t : Tree) (row : Option RowRef) (ts us : List Known) →
    Ends (code tracking t []) row ts us (on (begin (code tracking t []))) (formula_step tracking t row ts us)
answers tracking t row ts us =
    let xs : List Instruction = code tracking t [] in
    finishes xs row ts us (on (begin xs)) (formula_step tracking t row ts us)
    (compiled xs row ts us tracking t [] (record { rest = []; is = refl_end xs }) [] [])
  where
    refl_end : (zs : List Instruction) → zs ≡ zs ++ []
    refl_end [] = refl
    refl_end (z ∷ zs) = ap (λ ws. z ∷ ws) (refl_end zs)
