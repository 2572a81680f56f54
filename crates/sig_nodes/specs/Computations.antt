-- What is kept of one computed.
use Rattle.std.specs.Prelude.{ℕ, Bool, List, [], ◌∷◌, Option, false, ◌≡◌, length, take, Some, None, if◌then◌else◌}
use Rattle.sig_base.specs.declared.value.Known.{Known}
use Rattle.sig_base.specs.declared.value.Outcome.{Outcome}
use Rattle.signal_model.specs.Recipes.{Expression, Recipe}
use Rattle.signal_model.specs.Memos.{Source, Memo, Memos, source_names, sources_in}

-- its recipe, its memo where it has run, and while it is computing the values that its recipe was last asked with
pub record Computation : Type 0 where
  pub recipe : Recipe
  pub memo : Option Memo
  pub known : Option (List Known)

-- sources, from their names and from the numbers that were read
abbrev pub paired : List ℕ → List (Option ℕ) → List Source
paired [] _ = []
paired (n ∷ ns) [] = []
paired (n ∷ ns) (m ∷ ms) = record { name = n; number = m } ∷ paired ns ms

-- the memo of a run that read the sources of another anew, which have these numbers now
abbrev pub renewed : Option Memo → Outcome → List (Option ℕ) → ℕ → Memo
renewed m o numbers generation =
    record { outcome = o; sources = paired (source_names (sources_in m)) numbers; generation = generation; rewired = false }

-- a recipe of an expression and of the signals of its slots
abbrev pub recipe_made : Expression → List ℕ → Recipe
recipe_made e slots = record { expression = e; slots = slots }

-- a generation, in which nothing is kept
abbrev pub at_generation : ℕ → Memos
at_generation generation = record { generation = generation; entries = [] }

-- what a recipe was asked with in an evaluation that is under way: nothing until it was asked
abbrev pub known_so_far : Bool → List Known → List Known
known_so_far asked known = if asked then known else []

-- whether an evaluation that is under way goes on with these values: they begin with those that its recipe was last asked with
abbrev pub GoesOn : Option (List Known) → List Known → Type 0
GoesOn None known = ⊥
GoesOn (Some earlier) known = take (length earlier) known ≡ earlier
