-- What a formula tells at once is the answer of its recipe.
use Rattle.std.proofs.Common.{◌≡◌, ℕ, true, List, length, None, refl, sym, ap, ◌∙◌, subst, arith}
use Rattle.std.specs.Prelude.{nat_lt}
use Rattle.std.proofs.lemmas.Bool.Decides.{nat_tests}
use Rattle.sig_base.specs.declared.value.Known.{Known}
use Rattle.sig_base.specs.declared.value.Outcome.{Outcome}
use Rattle.sig_base.specs.declared.value.Outcome.TheVariants.{Good, Bad}
use Rattle.sig_base.specs.declared.value.Step.TheVariants.{Read}
use Rattle.sig_base.specs.declared.value.Fault.TheVariants.{Slot}
use Rattle.sig_formula.specs.declared.at_once.Told.{Told}
use Rattle.sig_formula.specs.declared.at_once.Told.TheVariants.{Slot as SlotTold, Ended as EndTold, Open}
use Rattle.sig_formula.specs.Evaluation.{answer_of, step_by}
use Rattle.sig_formula.specs.Operations.{IsTold}
use Rattle.sig_formula.specs.Trees.{Tree}
use Rattle.signal_model.specs.Recipes as recipes
use Rattle.signal_model.specs.Recipes.{Expression, Recipe, judged}
use Rattle.signal_model.proofs.Shared.{asks_unknown}
use Rattle.sig_nodes.specs.Computations.{recipe_made}
use Rattle.sig_nodes.specs.declared.answers.Asked.TheVariants.{Ended}
use Rattle.sig_nodes.specs.Answers.{IsAnswerOf}
use Rattle.sig_nodes.specs.Reading.{IsNeeded, IsToldOf}

-- an end isn't judged
ended_judged : (count : ℕ) (known : List Known) (o : Outcome) → judged count known (step_by None o) ≡ step_by None o
ended_judged count known (Good v) = refl
ended_judged count known (Bad e) = refl

-- what is told of a formula is told of its recipe
pub formula_told : (t : Told) (o : Outcome) (f : Tree) (slots : List ℕ) (known : List Known) → IsTold t o (answer_of f None known) →
    IsToldOf (recipe_made (recipes.formula None f) slots) known t o
formula_told (SlotTold n) o f slots known e = λ inside.
    let below : nat_lt n (length slots) ≡ true = grind (arith, nat_tests) in
    let unknown = asks_unknown f None known n (sym e) in
    let kept : judged (length slots) known (Read n) ≡ Read n = rw (below, unknown) refl in
    let answer : Read n ≡ judged (length slots) known (answer_of f None known) = sym kept ∙ ap (judged (length slots) known) e in
    ((λ z. (refl, λ hosts. answer)), record { inside = inside; unknown = unknown })
formula_told EndTold o f slots known e = (refl, λ hosts. sym (ended_judged (length slots) known o) ∙ ap (judged (length slots) known) e)
formula_told Open o f slots known e = tt

-- what is told of a recipe's formula is told of the recipe
told_of : (t : Told) (o : Outcome) (r : Recipe) (f : Tree) (known : List Known) → r.expression ≡ recipes.formula None f →
    IsTold t o (answer_of f None known) → IsToldOf r known t o
told_of t o r f known is e = subst (λ (x : Expression). IsToldOf (recipe_made x r.slots) known t o) (sym is) (formula_told t o f r.slots known e)

-- the slot that a recipe's formula asks for is needed
pub formula_needs : (r : Recipe) (f : Tree) (known : List Known) (n : ℕ) → r.expression ≡ recipes.formula None f → answer_of f None known ≡ Read n →
    IsNeeded r known n
formula_needs r f known n is e = told_of (SlotTold n) (Bad Slot) r f known is (sym e)

-- what it comes to is the recipe's answer
pub formula_ends : (r : Recipe) (f : Tree) (known : List Known) (o : Outcome) → r.expression ≡ recipes.formula None f →
    step_by None o ≡ answer_of f None known → IsAnswerOf r known Ended o
formula_ends r f known o is e = told_of EndTold o r f known is e
