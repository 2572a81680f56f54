use Rattle.std.proofs.Common.{◌∙◌, sym}
use Rattle.live_names.proofs.Unrefused.{alive, unrefused}
use Rattle.live_names.proofs.refusals.is_met.Goals as goal

pub returns-then-meets : goal.returns-then-meets
returns-then-meets c = λ met asked n.
    rw c.in-Some.is (unrefused _ c.args.need c.in-Some.known n (sym c.meets.ensures ∙ c.if-meets.true) (alive _ _ (c.is_gone.ensures asked) met))
