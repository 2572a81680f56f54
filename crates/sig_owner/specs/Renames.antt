-- Trees whose owners have other numbers.
use Rattle.std.specs.Prelude.{ℕ, List, map}
use Rattle.effect_model.specs.Owners.{Thing, the_owner, the_signal, the_effect, the_page, the_watcher, Owned, nothing, thing, cleanup, Undoing, cleans, ends}

-- a thing, where owners have other numbers
abbrev pub renamed_thing : (ℕ → ℕ) → Thing → Thing
renamed_thing g (the_owner n) = the_owner (g n)
renamed_thing g (the_signal n) = the_signal n
renamed_thing g (the_effect n) = the_effect n
renamed_thing g (the_page n) = the_page n
renamed_thing g (the_watcher n) = the_watcher n

-- the same of each in a tree
abbrev pub renamed : (ℕ → ℕ) → Owned → Owned
renamed g nothing = nothing
renamed g (thing t made earlier) = thing (renamed_thing g t) (renamed g made) (renamed g earlier)
renamed g (cleanup c earlier) = cleanup c (renamed g earlier)

-- the same of a step of a teardown
abbrev pub renamed_undoing : (ℕ → ℕ) → Undoing → Undoing
renamed_undoing g (cleans t c) = cleans (renamed_thing g t) c
renamed_undoing g (ends t) = ends (renamed_thing g t)

-- in order
abbrev pub renamed_undoings : (ℕ → ℕ) → List Undoing → List Undoing
renamed_undoings g us = map (renamed_undoing g) us
