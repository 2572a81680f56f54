use Rattle.std.proofs.Common.{◌≡◌, ◌++◌, take}
use Rattle.tpl_kept.proofs.listening.names.put_all.Given as goal

-- the names so far
abbrev pub invariant-loop-id : goal.invariant-loop-id
invariant-loop-id l = l.out.items ≡ l.fn.out.items ++ take l.id-index l.ids
