use Rattle.std.proofs.Common.{sym, ap, ◌∙◌, nat_eq}
use Rattle.indexmap.specs.IndexMap.{get}
use Rattle.slab.specs.Slab.{get as held_at}
use Rattle.sig_store.specs.Places.{value_there}
use Rattle.sig_store.proofs.Edits.{placed_away}
use Rattle.sig_store.proofs.store.later_value.Goals as goal

pub returns-in-None : goal.returns-in-None
returns-in-None g c =
    let look = held_at c.args.held.now in
    c.indexed_value.ensures ∙ ap (value_there look) (sym (placed_away (get nat_eq c.args.places.now) look c.args.number c.requires.away))
