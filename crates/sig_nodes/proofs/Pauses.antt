-- What is held of an evaluation goes on standing for its formula.
use Rattle.std.proofs.Common.{◌≡◌, List, [], ◌++◌, drop, length, take, Option, Some, None, sym, ap, ◌∙◌, subst}
use Rattle.std.proofs.lemmas.List.{take-append-drop}
use Rattle.std.specs.declared.boxed.Box.{Box}
use Rattle.sig_base.specs.declared.value.Known.{Known}
use Rattle.sig_formula.specs.declared.formula.Formula.{Formula}
use Rattle.sig_formula.specs.Trees.{tree}
use Rattle.sig_formula.specs.Machines.{Evaluation, IsPaused}
use Rattle.sig_formula.proofs.Shared.{more_is_paused}
use Rattle.sig_nodes.specs.declared.answers.Recipe.{Recipe}
use Rattle.sig_nodes.specs.declared.answers.Recipe.TheVariants as recipe
use Rattle.sig_nodes.specs.Pauses.{IsHeld, IsHeldOf}

-- what is held with a formula stands for the same where more is known
pub held_more : {Z : Type 0} (held : Option (Box Evaluation Z)) (r : Recipe) (f : Formula) (earlier known : List Known) → r ≡ recipe.Formula f →
    take (length earlier) known ≡ earlier → IsHeld held r earlier → IsHeldOf held (tree f) known
held_more None r f earlier known is e h = tt
held_more (Some p) r f earlier known is e h =
    let more = drop (length earlier) known in
    subst (λ (ks : List Known). IsPaused p.value (tree f) None ks) (ap (λ (ks : List Known). ks ++ more) (sym e) ∙ take-append-drop (length earlier) known)
    (more_is_paused p.value (tree f) None earlier more (subst (λ (x : Recipe). IsHeld (Some p) x earlier) is h))

-- what is held of a formula is held with its recipe
pub held_with : {Z : Type 0} (held : Option (Box Evaluation Z)) (r : Recipe) (f : Formula) (known : List Known) → r ≡ recipe.Formula f →
    IsHeldOf held (tree f) known → IsHeld held r known
held_with None r f known is h = tt
held_with (Some p) r f known is h = subst (λ (x : Recipe). IsHeld (Some p) x known) (sym is) h

-- what has read nothing stands for the formula whatever is known
pub new_held : (p : Evaluation) (f : Formula) → IsPaused p (tree f) None [] → (known : List Known) → IsPaused p (tree f) None known
new_held p f h known = more_is_paused p (tree f) None [] known h
