use Rattle.effect_tables.proofs.creation.child_row.Goals as goal

pub returns-in-Ok : goal.returns-in-Ok
returns-in-Ok c = record { after = c.in-Ok.ensures.after; tree = c.in-Ok.ensures.tree; gives = c.in-Ok.ensures.gives }
