-- A formula that speaks of no given row answers the same whatever row there is.
use Rattle.std.proofs.Common.{◌≡◌, ◌||◌, ◌∙◌, Bool, true, false, ap, refl}
use Rattle.sig_formula.specs.declared.evaluate.FormulaStep.TheVariants.{End}
use Rattle.sig_formula.specs.Evaluation.{chosen, count_outcome, decided, formula_step, keep_step, negated, operated, sum_step, unless_decided, with_rows}
use Rattle.sig_formula.specs.Evaluation.{with_value}
use Rattle.sig_formula.specs.Laws.{RowsAside}
use Rattle.sig_formula.specs.Trees.{literal, slot, row_field, row_key, negation, binary, choice, count_of, sum_of, rows_where, untracked}
use Rattle.sig_formula.specs.Trees.{needs_row}

-- where neither of two holds, the first doesn't, and the second doesn't
not_first : (x y : Bool) → (x || y) ≡ false → x ≡ false
not_first false y h = refl
not_first true y h = h

not_second : (x y : Bool) → (x || y) ≡ false → y ≡ false
not_second false y h = h
not_second true y h = absurd (cc)

pub rows_aside : RowsAside
rows_aside tracking (literal s) row other ts us h = refl
rows_aside tracking (slot n) row other ts us h = refl
rows_aside tracking (row_field f) row other ts us h = absurd (cc)
rows_aside tracking row_key row other ts us h = absurd (cc)
rows_aside tracking (negation a) row other ts us h = ap (λ s. with_value s (λ v. End (negated v))) (rows_aside tracking a row other ts us h)
rows_aside tracking (binary o a b) row other ts us h =
    let first : formula_step tracking a row ts us ≡ formula_step tracking a other ts us
    = rows_aside tracking a row other ts us (not_first (needs_row a) (needs_row b) h) in
    let second : formula_step tracking b row ts us ≡ formula_step tracking b other ts us
    = rows_aside tracking b row other ts us (not_second (needs_row a) (needs_row b) h) in
    ap (λ s. with_value s (λ v. unless_decided (decided o v) (with_value (formula_step tracking b row ts us) (λ w. End (operated o v w))))) first
    ∙ ap (λ s. with_value (formula_step tracking a other ts us) (λ v. unless_decided (decided o v) (with_value s (λ w. End (operated o v w))))) second
rows_aside tracking (choice t a b) row other ts us h =
    let rest : (needs_row a || needs_row b) ≡ false = not_second (needs_row t) (needs_row a || needs_row b) h in
    let test : formula_step tracking t row ts us ≡ formula_step tracking t other ts us
    = rows_aside tracking t row other ts us (not_first (needs_row t) (needs_row a || needs_row b) h) in
    let first : formula_step tracking a row ts us ≡ formula_step tracking a other ts us
    = rows_aside tracking a row other ts us (not_first (needs_row a) (needs_row b) rest) in
    let second : formula_step tracking b row ts us ≡ formula_step tracking b other ts us
    = rows_aside tracking b row other ts us (not_second (needs_row a) (needs_row b) rest) in
    ap (λ s. with_value s (λ v. chosen v (formula_step tracking a row ts us) (formula_step tracking b row ts us))) test
    ∙ (ap (λ s. with_value (formula_step tracking t other ts us) (λ v. chosen v s (formula_step tracking b row ts us))) first
    ∙ ap (λ s. with_value (formula_step tracking t other ts us) (λ v. chosen v (formula_step tracking a other ts us) s)) second)
rows_aside tracking (count_of a) row other ts us h = ap (λ s. with_value s (λ v. End (count_outcome v))) (rows_aside tracking a row other ts us h)
rows_aside tracking (sum_of a b) row other ts us h =
    ap (λ s. with_value s (λ v. with_rows v (λ t. sum_step tracking t b ts us))) (rows_aside tracking a row other ts us h)
rows_aside tracking (rows_where a b) row other ts us h =
    ap (λ s. with_value s (λ v. with_rows v (λ t. keep_step tracking t b ts us))) (rows_aside tracking a row other ts us h)
rows_aside tracking (untracked a) row other ts us h = rows_aside false a row other ts us h
