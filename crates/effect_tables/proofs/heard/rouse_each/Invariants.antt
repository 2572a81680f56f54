use Rattle.std.proofs.Common.{◌≡◌, ℕ, true, false, take}
use Rattle.effect_tables.specs.Heard.{has_place, is_marked}
use Rattle.effect_tables.proofs.heard.rouse_each.Given as goal

-- none more is marked, and none of those so far
abbrev pub invariant-loop-place : goal.invariant-loop-place
invariant-loop-place l = record {
  less : (p : ℕ) → is_marked p l.quiet ≡ true → is_marked p l.fn.quiet ≡ true;
  off : (p : ℕ) → has_place p (take l.place-index l.places) ≡ true → is_marked p l.quiet ≡ false;
}
