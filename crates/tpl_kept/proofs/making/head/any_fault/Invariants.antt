use Rattle.std.proofs.Common.{◌≡◌, map, take}
use Rattle.tpl_model.specs.KeptLines.Kept.{heard_of}
use Rattle.tpl_model.specs.PageUpdates.PageMemos.{any_fault}
use Rattle.tpl_kept.proofs.making.head.any_fault.Given as goal

-- the attributes so far
abbrev pub invariant-loop-heard : goal.invariant-loop-heard
invariant-loop-heard l = l.failed ≡ any_fault (map heard_of (take l.heard-index l.all))
