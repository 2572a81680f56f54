use Rattle.sig_owner.specs.Tables.{cleanup_of}
use Rattle.effect_teardown.proofs.Shared.{effect_found, effect_unlisted}
use Rattle.effect_acts.proofs.Acts.{acted_noted}
use Rattle.effect_acts.proofs.cleanups.note.Goals as goal

pub returns-in_default-clause-gone : goal.returns-in_default-clause-gone
returns-in_default-clause-gone c = λ h. effect_unlisted c.args.id c.args.world.now.tables.effects.items c.in_default.ensures

pub note_in-requires : goal.note_in-requires
note_in-requires c = (effect_found c.args.world.now.tables.store c.args.id c.in-Some.row c.args.world.now.tables.effects.items c.in-Some.ensures c.requires.tables.alive.effects).lives

pub returns-clause-done : goal.returns-clause-done
returns-clause-done c = λ asked slacks a.
    acted_noted slacks c.args.world.now c.note_in.new.store asked _ _ c.args.id c.in-Some.row (cleanup_of c.args.cleanup) (effect_found c.args.world.now.tables.store c.args.id c.in-Some.row c.args.world.now.tables.effects.items c.in-Some.ensures c.requires.tables.alive.effects).thing c.in_ok-note_in.ensures c.in_ok-push.ensures.items a
