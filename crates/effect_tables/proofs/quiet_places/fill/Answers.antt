use Rattle.std.proofs.Common.{sym, ap, ◌∙◌}
use Rattle.effect_tables.specs.Heard.{is_set}
use Rattle.effect_tables.proofs.Marks.{put_off}
use Rattle.effect_tables.proofs.quiet_places.fill.Goals as goal

pub loop-init : goal.loop-init
loop-init c = λ p h. h

pub loop-preserved : goal.loop-preserved
loop-preserved c = λ p h. c.loop.invariant p (put_off c.loop.marks.items p (sym (ap (is_set p) c.in_ok-push.ensures.items) ∙ h))

pub returns : goal.returns
returns c = c.loop.invariant
