use Rattle.template_rows.proofs.outcomes.is_heard_again.Goals as goal

pub hear_again-requires-clause-compared : goal.hear_again-requires-clause-compared
hear_again-requires-clause-compared g c = rw c.new-hearing.ensures.compared tt
