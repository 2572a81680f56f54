use Rattle.std.proofs.Common.{Some, IsSome, sym, ap, subst, ◌∙◌, nat_eq}
use Rattle.indexmap.specs.IndexMap.{get}
use Rattle.slab.specs.Slab.{get as held_at}
use Rattle.sig_store.specs.Places.{number_there}
use Rattle.sig_store.proofs.Edits.{held_number, placed_away, placed_home}
use Rattle.sig_store.proofs.store.leave_place.Goals as goal

pub forget_place-requires : goal.forget_place-requires
forget_place-requires g c =
    subst IsSome (placed_away (get nat_eq c.args.places.now) (held_at c.args.held.now) c.args.number c.in-None.ensures.none) c.requires

pub returns-in-Some-clause-place : goal.returns-in-Some-clause-place
returns-in-Some-clause-place g c =
    let look = held_at c.args.held.now in
    let home = held_number (look c.args.number) c.args.number (ap (number_there look) (sym c.in-Some.ensures.place) ∙ c.in-Some.ensures.some) in
    placed_home (get nat_eq c.args.places.now) look c.args.number home ∙ ap Some (sym c.in-Some.ensures.place)

pub returns-in-None-clause-place : goal.returns-in-None-clause-place
returns-in-None-clause-place g c =
    placed_away (get nat_eq c.args.places.now) (held_at c.args.held.now) c.args.number c.in-None.ensures.none ∙ c.forget_place.ensures.place
