-- A formula asks only for slots that it has and that aren't known.
use Rattle.std.proofs.Common.{◌≡◌, ℕ, ◌<◌, ◌==◌, ◌||◌, Bool, true, false, cond, List, [], ◌∷◌, length, Option, Some, None, refl, arith}
use Rattle.std.specs.Prelude.{nat_lt}
use Rattle.std.proofs.lemmas.Bool.Decides.{nat_tests}
use Rattle.sig_base.specs.declared.value.Known.{Known}
use Rattle.sig_base.specs.declared.value.Step.{Step}
use Rattle.sig_base.specs.declared.value.Step.TheVariants.{Read, Done, Fail}
use Rattle.sig_formula.specs.Trees.{Tree}
use Rattle.sig_formula.specs.declared.formula.RowRef.{RowRef}
use Rattle.sig_formula.specs.Evaluation.{answer_of, known_at}
use Rattle.sig_formula.proofs.Shared.{asks_askable}
use Rattle.signal_model.specs.Recipes.{is_known, judged}
use Rattle.signal_model.specs.Laws.{FormulaLaw}

-- a slot with no value isn't known
pub valueless : (n : ℕ) (known : List Known) → known_at n known ≡ None → is_known n known ≡ false
valueless n [] h = refl
valueless n (k ∷ ks) h = go (k.slot == n) h (valueless n ks)
  where
    go : (b : Bool) → cond b (Some k.value) (known_at n ks) ≡ None → (known_at n ks ≡ None → is_known n ks ≡ false) → (b || is_known n ks) ≡ false
    go true e f = cc
    go false e f = f e

-- a slot that a formula asks for isn't known
pub asks_unknown : (t : Tree) (row : Option RowRef) (known : List Known) (s : ℕ) → answer_of t row known ≡ Read s → is_known s known ≡ false
asks_unknown t row known s h = valueless s known (asks_askable t row known s h).unknown

pub formula_law : FormulaLaw
formula_law hosts t row slots known small = go (answer_of t row known) refl
  where
    go : (st : Step) → answer_of t row known ≡ st → judged (length slots) known st ≡ st
    go (Done v) h = refl
    go (Fail e) h = refl
    go (Read s) h =
        let below : s < length slots = small s (asks_askable t row known s h).own in
        let inside : nat_lt s (length slots) ≡ true = grind (arith, nat_tests) in
        rw (inside, asks_unknown t row known s h) refl
