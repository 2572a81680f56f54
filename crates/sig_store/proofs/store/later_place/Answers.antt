use Rattle.std.proofs.Common.{sym, ◌∙◌, nat_eq}
use Rattle.indexmap.specs.IndexMap.{get}
use Rattle.slab.specs.Slab.{get as held_at}
use Rattle.sig_store.proofs.Edits.{placed_away}
use Rattle.sig_store.proofs.store.later_place.Goals as goal

pub returns-in-None : goal.returns-in-None
returns-in-None g c = c.indexed_place.ensures ∙ sym (placed_away (get nat_eq c.args.places.now) (held_at c.args.held.now) c.args.number c.requires.away)
