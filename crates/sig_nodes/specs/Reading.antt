-- What is told at once of what a computed needs next.
use Rattle.std.specs.Prelude.{ℕ, ◌<◌, List, length}
use Rattle.sig_base.specs.declared.value.Known.{Known}
use Rattle.sig_base.specs.declared.value.Outcome.{Outcome}
use Rattle.sig_formula.specs.declared.at_once.Told.{Told}
use Rattle.sig_formula.specs.declared.at_once.Told.TheVariants.{Slot as SlotTold, Ended as EndTold, Open}
use Rattle.signal_model.specs.Recipes.{Recipe, IsUnknownSlot}
use Rattle.sig_nodes.specs.declared.answers.Asked.TheVariants.{Slot as SlotAsked, Ended}
use Rattle.sig_nodes.specs.Answers.{IsAnswerOf}

-- a slot that is needed next: where it is one of the recipe's, that is its answer, and the slot isn't known
abbrev pub IsNeeded : Recipe → List Known → ℕ → Type 0
IsNeeded r known n = n < length r.slots → ((o : Outcome) → IsAnswerOf r known (SlotAsked n) o) × IsUnknownSlot (length r.slots) n known

-- what is told at once of a recipe
abbrev pub IsToldOf : Recipe → List Known → Told → Outcome → Type 0
IsToldOf r known (SlotTold n) o = IsNeeded r known n
IsToldOf r known EndTold o = IsAnswerOf r known Ended o
IsToldOf r known Open o = Unit {0}
