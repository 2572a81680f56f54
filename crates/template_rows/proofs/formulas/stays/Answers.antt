use Rattle.template_rows.proofs.formulas.stays.Goals as goal

pub listen_again-requires-clause-compared : goal.listen_again-requires-clause-compared
listen_again-requires-clause-compared g c = rw c.new-hearing.ensures.compared tt
