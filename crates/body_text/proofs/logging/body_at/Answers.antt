use Rattle.sig_untrack.specs.Stated.{before, no_bodies}
use Rattle.body_text.proofs.LogBodies.{reads_log}
use Rattle.body_text.proofs.logging.body_at.Goals as goal

pub returns : goal.returns
returns c = λ allowance k.
    reads_log allowance k c.in-Some.text.now c.in_ok-name.name c.args.line.now (before c.in_ok-body.body no_bodies) c.in-Some.ensures
    c.in_ok-name.ensures c.in_ok-body.ensures
