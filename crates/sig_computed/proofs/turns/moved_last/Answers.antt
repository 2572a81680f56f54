use Rattle.sig_computed.proofs.turns.moved_last.Goals as goal

pub returns-clause-source : goal.returns-clause-source
returns-clause-source c = record {
  name = c.in_ok-last.last;
  named = c.in_ok-moved.ensures.named;
  seen = c.in_ok-last.ensures;
  moved = c.in_ok-moved.ensures.moved;
}
