use Rattle.std.proofs.Common.{◌+◌, drop, length}
use Rattle.tpl_blocks.specs.Blocks.{block}
use Rattle.tpl_kept.specs.Heads.{lines_size}
use Rattle.tpl_kept.specs.Listed.{listed}
use Rattle.tpl_kept.proofs.renewing.update.+renew_each.Given as goal

-- the lines that are left, and the rows that are left for them
abbrev pub decreases-renew_each : goal.decreases-renew_each
decreases-renew_each g l = lines_size (block l.lines.now) + length (drop l.at (listed l.rows))
