-- The labels of effects, by what was told.
use Rattle.std.specs.Prelude.{ℕ, ◌==◌, List, [], ◌∷◌, ◌++◌, if◌then◌else◌}
use Rattle.effect_model.specs.Worlds.{Event, made_child}

-- the number of an effect that was made by a command, and those of the children on the way down from it
pub record EffectLabel : Type 0 where
  pub effect : ℕ
  pub path : List ℕ

-- the labels of child effects
abbrev pub Labels : Type 0
Labels = List (ℕ × EffectLabel)

-- the label of an effect; one that is no child has its own number
abbrev pub label_of : Labels → ℕ → EffectLabel
label_of [] n = record { effect = n; path = [] }
label_of (l ∷ ls) n = if n == l.0 then l.1 else label_of ls n

-- the k-th child that a run of an effect makes
abbrev pub child_label : EffectLabel → ℕ → EffectLabel
child_label l k = record { effect = l.effect; path = l.path ++ k ∷ [] }

-- the labels after these events, where such were given before
abbrev pub labels_after : Labels → List Event → Labels
labels_after ls [] = ls
labels_after ls (made_child child parent k ∷ es) = labels_after ((child, child_label (label_of ls parent) k) ∷ ls) es
labels_after ls (e ∷ es) = labels_after ls es
