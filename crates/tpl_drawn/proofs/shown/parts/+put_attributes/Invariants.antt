use Rattle.std.proofs.Common.{length}
use Rattle.tpl_drawn.proofs.shown.parts.+put_attributes.Given as goal

-- the attributes that are left
abbrev pub decreases-put_attributes : goal.decreases-put_attributes
decreases-put_attributes l = length l.attributes.now
