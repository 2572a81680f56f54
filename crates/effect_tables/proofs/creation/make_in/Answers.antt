use Rattle.effect_tables.proofs.creation.make_in.Goals as goal

pub returns-clause-made : goal.returns-clause-made
returns-clause-made c = record { after = c.in_ok-row.ensures.after; tree = c.in_ok-row.ensures.tree; gives = c.in_ok-row.ensures.gives }
