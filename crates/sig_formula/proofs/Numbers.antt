-- Parts of a formula that come to a value: they do so also where more is known, and what they come to decides the whole.
use Rattle.std.proofs.Common.{◌≡◌, ◌∙◌, ◌++◌, ◌==◌, if◌then◌else◌, ℕ, Bool, true, false, List, [], ◌∷◌, Some, None, ap, sym, subst, refl}
use Rattle.std.proofs.lemmas.Bool.{eq-eqb}
use Rattle.std.specs.Option.{option_or}
use Rattle.sig_base.specs.declared.scalar.Scalar.{Scalar}
use Rattle.sig_base.specs.Values.{scalar_value}
use Rattle.sig_base.specs.declared.value.Value.{Value}
use Rattle.sig_base.specs.declared.value.Known.{Known}
use Rattle.sig_base.specs.declared.value.Outcome.{Outcome}
use Rattle.sig_base.specs.declared.value.Outcome.TheVariants.{Good}
use Rattle.sig_base.specs.declared.value.Step.TheVariants.{Read}
use Rattle.sig_formula.specs.declared.evaluate.FormulaStep.TheVariants.{Ask, End}
use Rattle.sig_formula.specs.declared.formula.BinOp.{BinOp}
use Rattle.sig_formula.specs.declared.formula.BinOp.TheVariants as op
use Rattle.sig_formula.specs.Evaluation.{answer_of, decided, formula_step, known_at, operated, plain_step, slot_step, step_by, unless_decided, with_value}
use Rattle.sig_formula.specs.Operations.{StaysGood}
use Rattle.sig_formula.specs.Programs.{decides}
use Rattle.sig_formula.specs.Trees.{Tree, binary, literal, slot}
use Rattle.sig_formula.proofs.Progress.{end_told, served_more}

-- ---- one part

-- a literal
pub literal_stays : (s : Scalar) (known : List Known) → StaysGood (literal s) known (scalar_value s)
literal_stays s known more = refl

-- a slot that is known
pub slot_stays : (n : ℕ) (known : List Known) (v : Value) → known_at n known ≡ Some v → StaysGood (slot n) known v
slot_stays n known v h more =
    ap (slot_step false n) (served_more false n known more v (ap (λ o. option_or o None) h))

-- a slot that isn't known is known once it is read
known_then : (n : ℕ) (known : List Known) (v : Value) → known_at n known ≡ None → known_at n (known ++ (record { slot = n; value = v }) ∷ []) ≡ Some v
known_then n [] v h = ap (λ (b : Bool). if b then Some v else None) (eq-eqb n n refl)
known_then n (k ∷ ks) v h = go (k.slot == n) (known_then n ks v) h
  where
    go : (b : Bool) → (known_at n ks ≡ None → known_at n (ks ++ (record { slot = n; value = v }) ∷ []) ≡ Some v) →
        (if b then Some k.value else known_at n ks) ≡ None →
        (if b then Some k.value else known_at n (ks ++ (record { slot = n; value = v }) ∷ [])) ≡ Some v
    go true f h = absurd (cc)
    go false f h = f h

-- so it comes to its value then
pub slot_read : (t : Tree) (n : ℕ) (known : List Known) (v : Value) → t ≡ slot n → known_at n known ≡ None →
    StaysGood t (known ++ (record { slot = n; value = v }) ∷ []) v
slot_read t n known v is h =
    subst (λ (u : Tree). StaysGood u (known ++ (record { slot = n; value = v }) ∷ []) v) (sym is)
    (slot_stays n (known ++ (record { slot = n; value = v }) ∷ []) v (known_then n known v h))

-- until then it is asked for
pub slot_asked : (t : Tree) (n : ℕ) (known : List Known) → t ≡ slot n → known_at n known ≡ None → formula_step false t None known [] ≡ Ask n false
slot_asked t n known is h =
    subst (λ (u : Tree). formula_step false u None known [] ≡ Ask n false) (sym is) (ap (λ o. slot_step false n (option_or o None)) h)

-- ---- the whole

-- what the left operand doesn't decide
undecided : (o : BinOp) (v : Value) → decides o ≡ false → decided o v ≡ None
undecided op.Or v h = absurd (cc)
undecided op.And v h = absurd (cc)
undecided op.Eq v h = refl
undecided op.Ne v h = refl
undecided op.Lt v h = refl
undecided op.Le v h = refl
undecided op.Gt v h = refl
undecided op.Ge v h = refl
undecided op.Join v h = refl
undecided op.Add v h = refl
undecided op.Sub v h = refl
undecided op.Mul v h = refl
undecided op.Div v h = refl
undecided op.Rem v h = refl

-- a formula that asks for a slot
pub whole_asks : (t : Tree) (known : List Known) (n : ℕ) → formula_step false t None known [] ≡ Ask n false → answer_of t None known ≡ Read n
whole_asks t known n h = ap plain_step h

-- once the left operand has a value that doesn't decide, the rest is asked of the right one
pub with_undecided : (o : BinOp) (a b : Tree) (known : List Known) (v : Value) → decided o v ≡ None → formula_step false a None known [] ≡ End (Good v) →
    formula_step false (binary o a b) None known [] ≡ with_value (formula_step false b None known []) (λ w. End (operated o v w))
with_undecided o a b known v free first =
    ap (λ s. with_value s (λ x. unless_decided (decided o x) (with_value (formula_step false b None known []) (λ w. End (operated o x w))))) first
    ∙ ap (λ d. unless_decided d (with_value (formula_step false b None known []) (λ w. End (operated o v w)))) free

-- as where the operator's left operand never decides
with_left : (o : BinOp) (a b : Tree) (known : List Known) (v : Value) → decides o ≡ false → formula_step false a None known [] ≡ End (Good v) →
    formula_step false (binary o a b) None known [] ≡ with_value (formula_step false b None known []) (λ w. End (operated o v w))
with_left o a b known v free first = with_undecided o a b known v (undecided o v free) first

-- what the right operand asks for then the operation asks for
pub right_asks : (o : BinOp) (a b : Tree) (known : List Known) (v : Value) (n : ℕ) → decides o ≡ false →
    formula_step false a None known [] ≡ End (Good v) → formula_step false b None known [] ≡ Ask n false →
    formula_step false (binary o a b) None known [] ≡ Ask n false
right_asks o a b known v n free first h =
    with_left o a b known v free first ∙ ap (λ s. with_value s (λ w. End (operated o v w))) h

-- and what the operator makes of the two is the answer
pub pair_ends : (o : BinOp) (a b : Tree) (known : List Known) (v w : Value) (x : Outcome) → decides o ≡ false →
    formula_step false a None known [] ≡ End (Good v) → formula_step false b None known [] ≡ End (Good w) → x ≡ operated o v w →
    step_by None x ≡ answer_of (binary o a b) None known
pair_ends o a b known v w x free first second made =
    end_told x ∙ ap (λ z. plain_step (End z)) made
    ∙ sym (ap plain_step (with_left o a b known v free first ∙ ap (λ s. with_value s (λ y. End (operated o v y))) second))

-- a part alone ends with its value
pub part_ends : (t : Tree) (known : List Known) (v : Value) → formula_step false t None known [] ≡ End (Good v) → step_by None (Good v) ≡ answer_of t None known
part_ends t known v h = sym (ap plain_step h)
