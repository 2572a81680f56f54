use Rattle.std.proofs.Common.{◌≡◌, drop}
use Rattle.live_model.specs.Machine.{outside_refusal}
use Rattle.live_items.proofs.refusals.outside_refusal.Given as goal

-- none so far is, so the refusal is that of the rest
abbrev pub invariant-loop-place : goal.invariant-loop-place
invariant-loop-place l = outside_refusal l.count l.places ≡ outside_refusal l.count (drop l.place-index l.places)
