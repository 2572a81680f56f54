use Rattle.std.proofs.Common.{◌≡◌, ℕ, ◌-◌, ◌<◌, ◌≤◌, length, true}
use Rattle.effect_tables.specs.Heard.{is_set}
use Rattle.effect_tables.proofs.quiet_places.past_ones.Given as goal

-- those so far are marked
abbrev pub invariant-loop-place : goal.invariant-loop-place
invariant-loop-place l = record {
  on : l.from ≤ l.place;
  passed : (p : ℕ) → l.from ≤ p → p < l.place → is_set p l.marks ≡ true;
}

abbrev pub decreases-loop-place : goal.decreases-loop-place
decreases-loop-place l = length l.marks - l.place
