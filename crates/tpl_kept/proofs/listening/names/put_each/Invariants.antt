use Rattle.std.proofs.Common.{◌≡◌, ◌++◌, map, take}
use Rattle.tpl_model.specs.PageUpdates.PageMemos.{all_names}
use Rattle.tpl_model.specs.KeptLines.Kept.{heard_of}
use Rattle.tpl_kept.proofs.listening.names.put_each.Given as goal

-- the names of the attributes so far
abbrev pub invariant-loop-heard : goal.invariant-loop-heard
invariant-loop-heard l = l.out.items ≡ l.fn.out.items ++ all_names (map heard_of (take l.heard-index l.all))
