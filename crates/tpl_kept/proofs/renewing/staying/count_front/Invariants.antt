use Rattle.std.proofs.Common.{map}
use Rattle.tpl_model.specs.KeptLines.Kept.{kept}
use Rattle.tpl_kept.specs.Nameless.{ReadNone}
use Rattle.tpl_kept.proofs.renewing.staying.count_front.Given as goal

-- those so far read no name
abbrev pub invariant-loop-count : goal.invariant-loop-count
invariant-loop-count l = ReadNone l.count (map kept l.memos)
