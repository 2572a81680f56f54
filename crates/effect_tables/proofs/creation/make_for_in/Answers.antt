use Rattle.effect_tables.proofs.creation.make_for_in.Goals as goal

pub returns-in-Ok-clause-made : goal.returns-in-Ok-clause-made
returns-in-Ok-clause-made c = record { after = c.in-Ok.ensures.after; tree = c.in-Ok.ensures.tree; gives = c.in-Ok.ensures.gives }
