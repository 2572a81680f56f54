use Rattle.std.proofs.Common.{◌≡◌, drop}
use Rattle.line_forms.specs.Slots.{with_each}
use Rattle.line_forms.proofs.reslot.put_new_names.Given as goal

-- with those that are left
abbrev pub invariant-loop-name : goal.invariant-loop-name
invariant-loop-name l = with_each l.names.items (drop l.name-index l.others) ≡ with_each l.fn.names.items l.others
