use Rattle.std.proofs.Common.{◌≡◌, ◌<◌, ◌^◌, length, map, take}
use Rattle.formula_text.specs.Refusals.{slot_of}
use Rattle.line_forms.proofs.reslot.slots_of.Given as goal

abbrev pub invariant-loop-name : goal.invariant-loop-name
invariant-loop-name l = length l.names < 2 ^ 32 → l.slots.items ≡ map (slot_of l.names) (take l.name-index l.own)
