use Rattle.std.proofs.Common.{◌-◌, length}
use Rattle.tpl_kept.specs.Turns.{AreAlike}
use Rattle.tpl_kept.proofs.renewing.rows.count_back.Given as goal

-- the last rows so far are alike
abbrev pub invariant-loop-count : goal.invariant-loop-count
invariant-loop-count l = AreAlike l.was (length l.was.rows - l.count) l.rows (length l.rows.rows - l.count) l.count
