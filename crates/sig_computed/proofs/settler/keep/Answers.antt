use Rattle.sig_computed.proofs.settler.keep.Goals as goal

pub returns-clause-after : goal.returns-clause-after
returns-clause-after c = c.in_ok-reads.ensures.kept
