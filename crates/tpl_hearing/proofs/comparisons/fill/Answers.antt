use Rattle.tpl_hearing.proofs.comparisons.fill.Goals as goal

pub loop-init : goal.loop-init
loop-init c = λ before heard all one. all

pub loop-preserved : goal.loop-preserved
loop-preserved c = λ before heard all one. c.in_ok-note.ensures before heard (c.loop.invariant before heard all one) one

pub returns : goal.returns
returns c = c.loop.invariant
