use Rattle.std.proofs.Common.{length}
use Rattle.tpl_kept.proofs.renewing.staying.+none_read.Given as goal

-- the attributes that are left
abbrev pub decreases-none_read : goal.decreases-none_read
decreases-none_read l = length l.all.now
