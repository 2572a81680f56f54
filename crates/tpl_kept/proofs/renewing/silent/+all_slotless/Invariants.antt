use Rattle.std.proofs.Common.{length}
use Rattle.tpl_kept.proofs.renewing.silent.+all_slotless.Given as goal

-- the attributes that are left
abbrev pub decreases-all_slotless : goal.decreases-all_slotless
decreases-all_slotless l = length l.attributes.now
