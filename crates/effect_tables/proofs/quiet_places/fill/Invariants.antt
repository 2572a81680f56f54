use Rattle.std.proofs.Common.{◌≡◌, ℕ, true}
use Rattle.effect_tables.specs.Heard.{is_set}
use Rattle.effect_tables.proofs.quiet_places.fill.Given as goal

-- none more is marked
abbrev pub invariant-loop : goal.invariant-loop
invariant-loop l = (p : ℕ) → is_set p l.marks.items ≡ true → is_set p l.fn.marks.items ≡ true
