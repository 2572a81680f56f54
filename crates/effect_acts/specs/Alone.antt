-- What the places of a body stand for that belongs to no effect.
use Rattle.std.specs.Prelude.{◌≡◌, ℕ, List, slice_get}
use Rattle.sig_untrack.specs.Links.{Parts}
use Rattle.effect_tables.specs.Bodies.{signal_number, target_thing}
use Rattle.effect_tables.specs.declared.links.Target.{Target}

-- its cells are those of its targets
abbrev pub AreCells : Parts → List Target → Type 0
AreCells p targets = (n : ℕ) → p.cells n ≡ signal_number (target_thing 0 (slice_get targets n))
