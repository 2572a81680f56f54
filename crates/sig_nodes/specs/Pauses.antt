-- What a computed holds of the evaluation of its formula.
use Rattle.std.specs.Prelude.{List, Option, Some, None}
use Rattle.std.specs.declared.boxed.Box.{Box}
use Rattle.sig_base.specs.declared.value.Known.{Known}
use Rattle.sig_formula.specs.Trees.{Tree, tree}
use Rattle.sig_formula.specs.Machines.{Evaluation, IsPaused}
use Rattle.sig_nodes.specs.declared.answers.Recipe.{Recipe}
use Rattle.sig_nodes.specs.declared.answers.Recipe.TheVariants.{Formula, Host}

-- an evaluation that is held of a formula which was asked with these values
abbrev pub IsHeldOf : {Z : Type 0} → Option (Box Evaluation Z) → Tree → List Known → Type 0
IsHeldOf None t known = Unit {0}
IsHeldOf (Some p) t known = IsPaused p.value t None known

-- the same of one that is held with a recipe
abbrev pub IsHeld : {Z : Type 0} → Option (Box Evaluation Z) → Recipe → List Known → Type 0
IsHeld None r known = Unit {0}
IsHeld (Some p) (Formula f) known = IsPaused p.value (tree f) None known
IsHeld (Some p) (Host place) known = Unit {0}
