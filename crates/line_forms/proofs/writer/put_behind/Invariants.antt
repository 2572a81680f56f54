use Rattle.std.proofs.Common.{◌≡◌, ◌++◌, take, flat_map}
use Rattle.line_forms.proofs.Separators.{behind_comma}
use Rattle.line_forms.proofs.writer.put_behind.Given as goal

-- the names so far
abbrev pub invariant-loop-name : goal.invariant-loop-name
invariant-loop-name l = l.out.items ≡ l.fn.out.items ++ flat_map behind_comma (take l.name-index l.names)
