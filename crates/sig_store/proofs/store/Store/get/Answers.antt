use Rattle.std.proofs.Common.{sym, ◌∙◌, nat_eq}
use Rattle.indexmap.specs.IndexMap.{get}
use Rattle.slab.specs.Slab.{get as held_at}
use Rattle.sig_store.specs.Places.{place_by}
use Rattle.sig_store.proofs.Edits.{entry-there}
use Rattle.sig_store.proofs.store.Store.get.Goals as goal

pub later_value-requires-clause-own : goal.later_value-requires-clause-own
later_value-requires-clause-own g c = c.self.invariant.store.own

pub returns-in-Some : goal.returns-in-Some
returns-in-Some g c =
    let at = place_by (get nat_eq c.self.inside.places) (held_at c.self.inside.held) in
    rw (← c.self.view_is) (
    sym (c.in-Some.ensures.some at c.self.invariant.store.own)
    ∙ sym (entry-there at (held_at c.self.inside.held) c.self.inside.made c.args.number c.self.invariant.store)
    )

pub returns-in-None : goal.returns-in-None
returns-in-None g c =
    rw (← c.self.view_is) (
    c.later_value.ensures
    ∙ sym (entry-there (place_by (get nat_eq c.self.inside.places) (held_at c.self.inside.held)) (held_at c.self.inside.held) c.self.inside.made c.args.number c.self.invariant.store)
    )
