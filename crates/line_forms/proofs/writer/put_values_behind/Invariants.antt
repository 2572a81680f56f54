use Rattle.std.proofs.Common.{◌≡◌, ◌++◌, take, flat_map}
use Rattle.line_forms.proofs.Separators.{value_behind_comma}
use Rattle.line_forms.proofs.writer.put_values_behind.Given as goal

-- the values so far
abbrev pub invariant-loop-value : goal.invariant-loop-value
invariant-loop-value l = l.out.items ≡ l.fn.out.items ++ flat_map value_behind_comma (take l.value-index l.values)
