-- What is kept for the rows of a loop, made one row after the other.
use Rattle.std.proofs.Common.{◌≡◌, ℕ, suc, ◌+◌, ◌<◌, Bool, true, false, List, [], ◌∷◌, ◌++◌, Option, Some, None, length, length-append, refl, sym, ap, subst, ◌∙◌, arith}
use Rattle.std.specs.Prelude.{◌&&◌, ◌≤◌}
use Rattle.std.specs.List.{flat_map}
use Rattle.std.specs.Map.{keys_of}
use Rattle.std.proofs.lemmas.List.{flat_map_more}
use Rattle.sig_base.specs.Tables.{Table}
use Rattle.sig_base.specs.declared.rows.Row.{Row}
use Rattle.sig_base.specs.declared.value.Outcome.{Outcome}
use Rattle.sig_formula.specs.declared.formula.RowRef.{RowRef}
use Rattle.signal_laws.specs.ReadLaws.{firsts_after}
use Rattle.tpl_model.specs.Lines.{Block}
use Rattle.tpl_model.specs.Shapes.{Here, row_here}
use Rattle.tpl_model.specs.Sources.{evaluating}
use Rattle.tpl_hearing.specs.Heard.{Grows, Outcomes}
use Rattle.tpl_model.specs.KeptLines.Kept.{rows_from}
use Rattle.tpl_model.specs.PageUpdates.PageMemos.{PageMemo, blank, row, failed, hearing, memo_of, names, rows_memo, unless}
use Rattle.tpl_model.specs.KeptLines.Memos.{Agrees, Makes, loop_part, part_memo, rows_in}
use Rattle.tpl_kept.proofs.Listened.Sequences.{agreed, in_order}

-- the row at a place
abbrev pub row_at : Table → ℕ → RowRef
row_at t i = record { rows = t; place = i }

-- what is kept of lines in one row is that from scratch
pub record InRow (ends : Bool) (b : Block) (links : List ℕ) (r : RowRef) (now : Outcomes) (m : PageMemo) : Type 0 where
  pub is : (source : ℕ → Outcome) → Agrees now source → (here : Option Here) → row_here here ≡ Some r →
      m ≡ memo_of (hearing (evaluating links source)) ends here b

-- so it is in rows from place i on
abbrev pub InRows : Bool → Block → List ℕ → Table → ℕ → Outcomes → List PageMemo → Type 0
InRows ends b links t i now [] = Unit {0}
InRows ends b links t i now (m ∷ ms) = InRow ends b links (row_at t i) now m × InRows ends b links t (suc i) now ms

-- none of them ended all
abbrev pub GoOn : Bool → List PageMemo → Type 0
GoOn ends [] = Unit {0}
GoOn ends (m ∷ ms) = ((ends && failed m) ≡ false) × GoOn ends ms

-- what is kept for the first so many rows
pub record RowsMade (ends : Bool) (b : Block) (links : List ℕ) (t : Table) (n : ℕ) (earlier now : Outcomes) (ms : List PageMemo) : Type 0 where
  pub count : length ms ≡ n
  pub on : GoOn ends ms
  pub each : InRows ends b links t 0 now ms
  pub order : keys_of now ≡ firsts_after (keys_of earlier) (flat_map names ms)

-- of none
pub none_rowed : (ends : Bool) (b : Block) (links : List ℕ) (t : Table) (heard : Outcomes) (ms : List PageMemo) → ms ≡ [] → RowsMade ends b links t 0 heard heard ms
none_rowed ends b links t heard ms e =
    subst (RowsMade ends b links t 0 heard heard) (sym e) (record { count = refl; on = tt; each = tt; order = refl })

-- what was made stays so
still_in : (ends : Bool) (b : Block) (links : List ℕ) (t : Table) (i : ℕ) (mid now : Outcomes) (ms : List PageMemo) → Grows mid now → InRows ends b links t i mid ms →
    InRows ends b links t i now ms
still_in ends b links t i mid now [] g all = tt
still_in ends b links t i mid now (m ∷ ms) g all = (
  record { is = λ source agrees here e. all.0.is source (agreed mid now source g agrees) here e },
  still_in ends b links t (suc i) mid now ms g all.1,
)

more_in : (ends : Bool) (b : Block) (links : List ℕ) (t : Table) (i j : ℕ) (now : Outcomes) (ms : List PageMemo) (m : PageMemo) → j ≡ i + length ms →
    InRows ends b links t i now ms → InRow ends b links (row_at t j) now m → InRows ends b links t i now (ms ++ m ∷ [])
more_in ends b links t i j now [] m e all one = (let p : j ≡ i = omega (arith, e) in (subst (λ z. InRow ends b links (row_at t z) now m) p one, tt))
more_in ends b links t i j now (x ∷ ms) m e all one = (
  all.0,
  more_in ends b links t (suc i) j now ms m (omega (arith, e)) all.1 one,
)

more_on : (ends : Bool) (ms : List PageMemo) (m : PageMemo) → GoOn ends ms → (ends && failed m) ≡ false → GoOn ends (ms ++ m ∷ [])
more_on ends [] m all one = (one, tt)
more_on ends (x ∷ ms) m all one = (all.0, more_on ends ms m all.1 one)

-- the order of what was heard, and of one row more
order_more : (earlier mid now : Outcomes) (ms ks : List PageMemo) (m : PageMemo) → keys_of mid ≡ firsts_after (keys_of earlier) (flat_map names ms) →
    keys_of now ≡ firsts_after (keys_of mid) (names m) → ks ≡ ms ++ m ∷ [] → keys_of now ≡ firsts_after (keys_of earlier) (flat_map names ks)
order_more earlier mid now ms ks m h k f =
    in_order (keys_of earlier) (keys_of mid) (keys_of now) (flat_map names ms) (names m) h k
    ∙ ap (firsts_after (keys_of earlier)) (flat_map_more names [] ms m ∙ ap (flat_map names) (sym f))

-- of one more
pub one_rowed : (ends : Bool) (b : Block) (links : List ℕ) (t : Table) (n : ℕ) (r : RowRef) (earlier mid now : Outcomes) (ms ks : List PageMemo) (m : PageMemo) →
    RowsMade ends b links t n earlier mid ms → Grows mid now → r ≡ row_at t n → Makes (part_memo ends b) links (Some r) mid now m → (ends && failed m) ≡ false →
    ks ≡ ms ++ m ∷ [] → RowsMade ends b links t (n + 1) earlier now ks
one_rowed ends b links t n r earlier mid now ms ks m a g e made on f = record {
  count = (let c = a.count in let k : length ks ≡ length (ms ++ m ∷ []) = ap length f in let l = length-append ms (m ∷ []) in omega (arith, c, k, l));
  on = subst (GoOn ends) (sym f) (more_on ends ms m a.on on);
  each = subst (InRows ends b links t 0 now) (sym f)
      (more_in ends b links t 0 n now ms m (let c = a.count in omega (arith, c)) (still_in ends b links t 0 mid now ms g a.each)
      (record { is = λ source agrees here h. made.is source agrees here (h ∙ ap Some (sym e)) }));
  order = order_more earlier mid now ms ks m a.order made.order f;
}

-- no rows are kept
no_rows : (t : Table) (i : ℕ) (rs : List Row) → rows_from t i rs [] ≡ blank
no_rows t i [] = refl
no_rows t i (r ∷ rs) = refl

-- rows that are made are those of the table
rows_are : (ends : Bool) (b : Block) (links : List ℕ) (t : Table) (now : Outcomes) (source : ℕ → Outcome) → Agrees now source → (i : ℕ) (rs : List Row) (ms : List PageMemo) →
    length ms ≡ length rs → GoOn ends ms → InRows ends b links t i now ms →
    rows_from t i rs ms ≡ rows_memo ends (λ h. memo_of (hearing (evaluating links source)) ends (Some h) b) t i rs
rows_are ends b links t now source agrees i [] [] e on all = refl
rows_are ends b links t now source agrees i [] (m ∷ ms) e on all = absurd (omega (arith, e))
rows_are ends b links t now source agrees i (r ∷ rs) [] e on all = absurd (omega (arith, e))
rows_are ends b links t now source agrees i (r ∷ rs) (m ∷ ms) e on all =
    let here : Here = record { key = r.key; row = record { rows = t; place = i } } in
    let go : Here → PageMemo = λ h. memo_of (hearing (evaluating links source)) ends (Some h) b in
    let rest = rows_memo ends go t (suc i) rs in
    let p : m ≡ go here = all.0.is source agrees (Some here) refl in
    let q = rows_are ends b links t now source agrees (suc i) rs ms (omega (arith, e)) on.1 all.1 in
    ap (λ z. row here m z) (q ∙ ap (λ z. unless z rest) (sym on.0)) ∙ ap (λ z. row here z (unless (ends && failed z) rest)) p

-- rows up to one that ended all are those of the table
rows_up_to : (ends : Bool) (b : Block) (links : List ℕ) (t : Table) (now : Outcomes) (source : ℕ → Outcome) → Agrees now source → (i : ℕ) (rs : List Row) (ms : List PageMemo)
    (m : PageMemo) → length ms < length rs → GoOn ends ms → InRows ends b links t i now (ms ++ m ∷ []) → (ends && failed m) ≡ true →
    rows_from t i rs (ms ++ m ∷ []) ≡ rows_memo ends (λ h. memo_of (hearing (evaluating links source)) ends (Some h) b) t i rs
rows_up_to ends b links t now source agrees i [] ms m e on all over = absurd (omega (arith, e))
rows_up_to ends b links t now source agrees i (r ∷ rs) [] m e on all over =
    let here : Here = record { key = r.key; row = record { rows = t; place = i } } in
    let go : Here → PageMemo = λ h. memo_of (hearing (evaluating links source)) ends (Some h) b in
    let rest = rows_memo ends go t (suc i) rs in
    let p : m ≡ go here = all.0.is source agrees (Some here) refl in
    ap (λ z. row here m z) (no_rows t (suc i) rs ∙ ap (λ z. unless z rest) (sym over)) ∙ ap (λ z. row here z (unless (ends && failed z) rest)) p
rows_up_to ends b links t now source agrees i (r ∷ rs) (k ∷ ms) m e on all over =
    let here : Here = record { key = r.key; row = record { rows = t; place = i } } in
    let go : Here → PageMemo = λ h. memo_of (hearing (evaluating links source)) ends (Some h) b in
    let rest = rows_memo ends go t (suc i) rs in
    let p : k ≡ go here = all.0.is source agrees (Some here) refl in
    let q = rows_up_to ends b links t now source agrees (suc i) rs ms m (omega (arith, e)) on.1 all.1 over in
    ap (λ z. row here k z) (q ∙ ap (λ z. unless z rest) (sym on.0)) ∙ ap (λ z. row here z (unless (ends && failed z) rest)) p

-- their names
rows_names : (t : Table) (i : ℕ) (rs : List Row) (ms : List PageMemo) → length ms ≤ length rs → flat_map names ms ≡ names (rows_from t i rs ms)
rows_names t i rs [] e = ap names (sym (no_rows t i rs))
rows_names t i [] (m ∷ ms) e = absurd (omega (arith, e))
rows_names t i (r ∷ rs) (m ∷ ms) e = ap (λ z. names m ++ z) (rows_names t (suc i) rs ms (omega (arith, e)))

-- all of them
pub rows_made : (ends : Bool) (b : Block) (links : List ℕ) (t : Table) (n : ℕ) (earlier now : Outcomes) (ms : List PageMemo) → RowsMade ends b links t n earlier now ms →
    n ≡ length t.rows → Makes (loop_part ends t b) links None earlier now (rows_in t ms)
rows_made ends b links t n earlier now ms a e =
    let c : length ms ≡ length t.rows = a.count ∙ e in
    record {
      is = λ source agrees here h. rows_are ends b links t now source agrees 0 t.rows ms c a.on a.each;
      order = a.order ∙ ap (firsts_after (keys_of earlier)) (rows_names t 0 t.rows ms (omega (arith, c)));
    }

-- up to one that ended all
pub rows_ended : (ends : Bool) (b : Block) (links : List ℕ) (t : Table) (n : ℕ) (r : RowRef) (earlier mid now : Outcomes) (ms ks : List PageMemo) (m : PageMemo) →
    RowsMade ends b links t n earlier mid ms → n < length t.rows → Grows mid now → r ≡ row_at t n → Makes (part_memo ends b) links (Some r) mid now m →
    (ends && failed m) ≡ true → ks ≡ ms ++ m ∷ [] → Makes (loop_part ends t b) links None earlier now (rows_in t ks)
rows_ended ends b links t n r earlier mid now ms ks m a within g e made over f =
    let c = a.count in
    let k : length ks ≡ length (ms ++ m ∷ []) = ap length f in
    let l = length-append ms (m ∷ []) in
    let each : InRows ends b links t 0 now (ms ++ m ∷ []) =
    more_in ends b links t 0 n now ms m (omega (arith, c)) (still_in ends b links t 0 mid now ms g a.each)
    (record { is = λ source agrees here h. made.is source agrees here (h ∙ ap Some (sym e)) }) in
    record {
      is = λ source agrees here h. ap (λ z. rows_in t z) f ∙ rows_up_to ends b links t now source agrees 0 t.rows ms m (omega (arith, c, within)) a.on each over;
      order = order_more earlier mid now ms ks m a.order made.order f
          ∙ ap (firsts_after (keys_of earlier)) (rows_names t 0 t.rows ks (omega (arith, c, k, l, within)));
    }
