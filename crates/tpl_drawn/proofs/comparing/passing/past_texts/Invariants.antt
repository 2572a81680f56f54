use Rattle.std.proofs.Common.{◌≡◌, ◌-◌, ℕ, false, List, Option}
use Rattle.tpl_blocks.specs.Blocks.{block}
use Rattle.tpl_model.specs.KeptLines.Changes.{Change, same_before}
use Rattle.tpl_model.specs.KeptLines.Kept.{kept}
use Rattle.tpl_drawn.proofs.Compares.Passing.{Passes}
use Rattle.tpl_drawn.proofs.comparing.passing.past_texts.Given as goal

-- the texts so far are passed
abbrev pub invariant-loop-passed : goal.invariant-loop-passed
invariant-loop-passed l = Passes (block l.lines) (kept l.memo) l.count (block l.behind) (kept l.left) (l.count - l._passed)
