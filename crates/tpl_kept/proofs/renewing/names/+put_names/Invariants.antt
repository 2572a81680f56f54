use Rattle.std.proofs.Common.{◌≡◌, ◌++◌, map, take}
use Rattle.std.specs.List.{flat_map}
use Rattle.tpl_model.specs.PageUpdates.PageMemos.{names}
use Rattle.tpl_model.specs.KeptLines.Kept.{kept}
use Rattle.tpl_kept.proofs.renewing.names.+put_names.Given as goal

-- the names of the rows so far
abbrev pub invariant-loop-row : goal.invariant-loop-row
invariant-loop-row l = l.out.items ≡ l.initial.out.items ++ flat_map names (map kept (take l.row-index l.row-items))
