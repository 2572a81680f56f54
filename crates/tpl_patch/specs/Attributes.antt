-- The operations on one attribute.
use Rattle.std.specs.Prelude.{ℕ, List, [], ◌∷◌, Option, Some, None, if◌then◌else◌}
use Rattle.page_model.specs.Edits.{same_value}
use Rattle.page_model.specs.Forest.{Forest, label_in}
use Rattle.page_model.specs.Labels.{Root, Kind}
use Rattle.page_model.specs.Replay.{Op, OpAttr, OpUnattr}
use Rattle.tpl_model.specs.NextPage.KeptNodes.{told_on}
use Rattle.tpl_model.specs.ShownNodes.Shapes.{Marked}

-- an absent one is taken out where the tree has it
abbrev pub unset_edits : ℕ → List ℕ → Option (List ℕ) → List Op
unset_edits n name None = []
unset_edits n name (Some u) = OpUnattr n name ∷ []

-- a present one is put at its place where the tree has another value or none
abbrev pub set_edits : ℕ → ℕ → List ℕ → Option (List ℕ) → List ℕ → List Op
set_edits n i name old v = if same_value old v then [] else OpAttr n i name v ∷ []

-- what a marked node says otherwise than the tree has it
abbrev pub mark_told : Forest Kind → Marked → List Op
mark_told tree m = told_on m.number (label_in Root m.number tree) m.look
