use Rattle.template_rows.proofs.formulas.all_stay.Goals as goal

pub listen_all_again-requires-clause-compared : goal.listen_all_again-requires-clause-compared
listen_all_again-requires-clause-compared g c = rw c.new-hearing.ensures.compared tt
