use Rattle.sig_owner.specs.Tables.{cleanup_of}
use Rattle.effect_acts.proofs.Acts.{noted_in}
use Rattle.effect_acts.proofs.cleanups.note_in.Goals as goal

pub returns-in-Ok : goal.returns-in-Ok
returns-in-Ok c = noted_in c.args.store.now c.note_cleanup.new.self c.args.row (cleanup_of c.args.cleanup) c.in-Ok.ensures.after c.in-Ok.ensures.tree
