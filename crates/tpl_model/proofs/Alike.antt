-- A formula answers the same on rows that are the same.
use Rattle.std.proofs.Common.{◌≡◌, ℕ, Bool, true, false, refl, ap, ◌∙◌, List, Option, Some, None, []}
use Rattle.std.specs.Prelude.{option_map, option_and_then}
use Rattle.std.specs.List.{slice_get}
use Rattle.std.specs.Str.{bytes_eq}
use Rattle.std.proofs.lemmas.Bool.{false≢true, and_parts}
use Rattle.std.proofs.lemmas.Slice.Eq.{bytes_eq-Decides, slice_eq-Decides}
use lib.Pointwise.{pointwise}
use Rattle.sig_base.specs.Tables.{same_row-Decides}
use Rattle.sig_base.specs.declared.rows.Row.{Row}
use Rattle.sig_base.specs.declared.scalar.Scalar.TheVariants as scalar
use Rattle.sig_base.specs.declared.value.Known.{Known}
use Rattle.sig_formula.specs.declared.evaluate.FormulaStep.TheVariants.{End}
use Rattle.sig_formula.specs.declared.formula.RowRef.{RowRef}
use Rattle.sig_formula.specs.Evaluation.{chosen, count_outcome, decided, field_outcome, formula_step, keep_step, key_outcome, negated, operated, plain_step, present, sum_step, unless_decided, value_under, with_rows, with_value}
use Rattle.sig_formula.specs.Trees.{Tree, literal, slot, row_field, row_key, negation, binary, choice, count_of, sum_of, rows_where, untracked}
use Rattle.tpl_model.specs.Sources.{same_place}
use Rattle.tpl_model.specs.Laws.{SameRowsLaw}

-- two rows that have the same parts
record HaveSameParts (row other : Option RowRef) : Type 0 where
  fields : (f : List ℕ) → field_outcome f row ≡ field_outcome f other
  keys : key_outcome row ≡ key_outcome other

-- a formula speaks of no more than these parts
same_step : (tracking : Bool) (f : Tree) (row other : Option RowRef) (ts us : List Known) → HaveSameParts row other →
    formula_step tracking f row ts us ≡ formula_step tracking f other ts us
same_step tracking (literal s) row other ts us h = refl
same_step tracking (slot n) row other ts us h = refl
same_step tracking (row_field f) row other ts us h = ap (λ o. End o) (h.fields f)
same_step tracking row_key row other ts us h = ap (λ o. End o) h.keys
same_step tracking (negation a) row other ts us h = ap (λ s. with_value s (λ v. End (negated v))) (same_step tracking a row other ts us h)
same_step tracking (binary o a b) row other ts us h =
    ap (λ s. with_value s (λ v. unless_decided (decided o v) (with_value (formula_step tracking b row ts us) (λ w. End
    (operated o v w)))))
    (same_step tracking a row other ts us h)
    ∙ ap (λ s. with_value (formula_step tracking a other ts us) (λ v. unless_decided (decided o v) (with_value s (λ w. End
    (operated o v w)))))
    (same_step tracking b row other ts us h)
same_step tracking (choice t a b) row other ts us h =
    ap (λ s. with_value s (λ v. chosen v (formula_step tracking a row ts us) (formula_step tracking b row ts us)))
    (same_step tracking t row other ts us h)
    ∙ (ap (λ s. with_value (formula_step tracking t other ts us) (λ v. chosen v s (formula_step tracking b row ts us)))
    (same_step tracking a row other ts us h)
    ∙ ap (λ s. with_value (formula_step tracking t other ts us) (λ v. chosen v (formula_step tracking a other ts us) s))
    (same_step tracking b row other ts us h))
same_step tracking (count_of a) row other ts us h =
    ap (λ s. with_value s (λ v. End (count_outcome v))) (same_step tracking a row other ts us h)
same_step tracking (sum_of a b) row other ts us h =
    ap (λ s. with_value s (λ v. with_rows v (λ t. sum_step tracking t b ts us))) (same_step tracking a row other ts us h)
same_step tracking (rows_where a b) row other ts us h =
    ap (λ s. with_value s (λ v. with_rows v (λ t. keep_step tracking t b ts us))) (same_step tracking a row other ts us h)
same_step tracking (untracked a) row other ts us h = same_step false a row other ts us h

-- two places with the same row
placed_alike : (r s : Option Row) → same_place r s ≡ true → r ≡ s
placed_alike None None h = refl
placed_alike None (Some s) h = absurd (false≢true h)
placed_alike (Some r) None h = absurd (false≢true h)
placed_alike (Some r) (Some s) h = ap Some ((same_row-Decides r s).0 h)

have_same : (r s : RowRef) → r.rows.fields ≡ s.rows.fields → slice_get r.rows.rows r.place ≡ slice_get s.rows.rows s.place →
    HaveSameParts (Some r) (Some s)
have_same r s f e = record {
  fields = λ g. ap (λ x. present (option_and_then (λ (y : Row). value_under g r.rows.fields y.values) x)) e
      ∙ ap (λ (x : List (List ℕ)). present (option_and_then (λ (y : Row). value_under g x y.values) (slice_get s.rows.rows s.place))) f;
  keys = ap (λ x. present (option_map (λ (y : Row). scalar.Text y.key) x)) e;
}

-- a formula answers the same on two rows that are the same
pub same_rows : SameRowsLaw
same_rows r s h f known =
    let fields = pointwise bytes_eq r.rows.fields s.rows.fields in
    let rows = same_place (slice_get r.rows.rows r.place) (slice_get s.rows.rows s.place) in
    let a = (slice_eq-Decides bytes_eq-Decides r.rows.fields s.rows.fields _ refl).0 (and_parts fields rows h).0 in
    let b = placed_alike (slice_get r.rows.rows r.place) (slice_get s.rows.rows s.place) (and_parts fields rows h).1 in
    ap plain_step (same_step false f (Some r) (Some s) known [] (have_same r s a b))
