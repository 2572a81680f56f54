use Rattle.std.proofs.Common.{◌≡◌, ℕ, ◌-◌, ◌<◌, ◌≤◌, length, true}
use Rattle.effect_tables.specs.Heard.{is_set}
use Rattle.effect_tables.proofs.quiet_places.past_eights.Given as goal

-- those so far are marked
abbrev pub invariant-passing : goal.invariant-passing
invariant-passing l = record {
  on : l.from ≤ l.place;
  passed : (p : ℕ) → l.from ≤ p → p < l.place → is_set p l.marks ≡ true;
}

abbrev pub decreases-passing : goal.decreases-passing
decreases-passing l = length l.marks - l.place
