use Rattle.std.proofs.Common.{take}
use Rattle.tpl_hearing.specs.HeardAgain.{AreSame}
use Rattle.tpl_hearing.proofs.comparisons.Rehearing.are_same.Given as goal

-- the names so far have the outcomes of before
abbrev pub invariant-loop-id : goal.invariant-loop-id
invariant-loop-id l = AreSame l.before (take l.id-index l.ids) l.self.heard l.self.heard
