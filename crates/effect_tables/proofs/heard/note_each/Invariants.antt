use Rattle.std.proofs.Common.{◌≡◌, ℕ, true, take}
use Rattle.std.specs.List.{AllByRecursion}
use Rattle.signal_model.specs.Values.{Seen}
use Rattle.effect_tables.specs.Heard.{reads_at}
use Rattle.effect_tables.proofs.heard.note_each.Given as goal

-- the reads so far wake it, and what was noted before is
abbrev pub invariant-loop-read : goal.invariant-loop-read
invariant-loop-read l = record {
  each : AllByRecursion (λ (s : Seen). reads_at l.readers s.name l.place ≡ true) (take l.read-index l.reads);
  more : (n p : ℕ) → reads_at l.fn.readers n p ≡ true → reads_at l.readers n p ≡ true;
}
