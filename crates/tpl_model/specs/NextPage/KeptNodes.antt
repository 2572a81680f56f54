-- What a kept node says, by what the tree has of it: the look of before isn't needed line by line.
use Rattle.std.specs.Prelude.{◌≡◌, ℕ, List, [], ◌∷◌, Option, if◌then◌else◌}
use Rattle.std.specs.Str.{bytes_eq}
use Rattle.page_model.specs.Edits.{line_edits, look_edits}
use Rattle.page_model.specs.Labels.{Text, Element, Alike, DistinctNames, Kind, Look, seen}
use Rattle.page_model.specs.Replay.{Op, OpText}
use Rattle.page_tree.specs.Queries.{value_named}

-- the attributes line by line, each where the tree has it otherwise; a place is that among the present ones
abbrev pub attributes_told : ℕ → List (List ℕ × List ℕ) → List (List ℕ × Option (List ℕ)) → ℕ → List Op
attributes_told n now [] i = []
attributes_told n now (b ∷ bs) i = line_edits n i b.0 (value_named b.0 now) b.1 (attributes_told n now bs)

-- the text or the attributes of a node where the tree has them otherwise
abbrev pub told_on : ℕ → Kind → Look → List Op
told_on n (Text s) (Text t) = if bytes_eq s t then [] else OpText n t ∷ []
told_on n (Element name now) (Element name' next) = attributes_told n now next 0
told_on n x y = []

-- it is what differs between the two looks, where both come from one line
abbrev pub ToldLaw : Type 0
ToldLaw = (n : ℕ) (x y : Look) → Alike x y → DistinctNames x → look_edits n x y ≡ told_on n (seen x) y
