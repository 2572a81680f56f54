-- The numbers in the labels of children.
use Rattle.std.specs.Prelude.{ℕ, List, [], ◌∷◌}
use Rattle.effect_model.specs.Bodies.{Act}
use Rattle.effect_model.specs.Runs.{next_child}

-- the number in the label of the next child, after these acts
abbrev pub labelled : ℕ → List Act → ℕ
labelled k [] = k
labelled k (a ∷ as') = labelled (next_child a k) as'
