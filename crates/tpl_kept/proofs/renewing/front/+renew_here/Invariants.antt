use Rattle.tpl_blocks.specs.Blocks.{block}
use Rattle.tpl_kept.specs.Heads.{lines_size}
use Rattle.tpl_kept.proofs.renewing.front.+renew_here.Given as goal

-- the lines that are left
abbrev pub decreases-renew_here : goal.decreases-renew_here
decreases-renew_here g l = lines_size (block l.lines.now)
