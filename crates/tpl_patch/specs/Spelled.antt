-- Steps between the children of a node, spelled out as operations.
use Rattle.std.specs.Prelude.{ℕ, suc, List, [], ◌∷◌}
use Rattle.keyed_each.specs.declared.places.RowStep.{RowStep}
use Rattle.keyed_each.specs.declared.places.RowStep.TheVariants.{Keep, Insert, Move}
use Rattle.page_model.specs.Forest.{Forest, none, node}
use Rattle.page_model.specs.Labels.{Kind}
use Rattle.page_model.specs.Replay.{Op, OpInsert, OpMove}

-- the steps for the next children of these numbers from place i on, where what comes is taken from these siblings in order
abbrev pub spelled : ℕ → ℕ → List ℕ → List RowStep → Forest Kind → List Op
spelled p i [] steps siblings = []
spelled p i (n ∷ ns) [] siblings = []
spelled p i (n ∷ ns) (Keep ∷ steps) siblings = spelled p (suc i) ns steps siblings
spelled p i (n ∷ ns) (Move j ∷ steps) siblings = OpMove n i ∷ spelled p (suc i) ns steps siblings
spelled p i (n ∷ ns) (Insert j ∷ steps) none = spelled p (suc i) ns steps none
spelled p i (n ∷ ns) (Insert j ∷ steps) (node m x k r) = OpInsert p i m x k ∷ spelled p (suc i) ns steps r
