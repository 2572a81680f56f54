use Rattle.std.proofs.Common.{sym, ap, subst, ◌∙◌, nat_eq, Some, None, IsSome, ◌≡◌, arith}
use Rattle.indexmap.specs.IndexMap.{get}
use Rattle.slab.specs.Slab.{get as held_at}
use Rattle.std.specs.Option.{option_map}
use Rattle.sig_store.specs.Places.{place_by, value_there}
use Rattle.sig_store.proofs.Edits.{entry-there, place-there, held-there, edited, one_place, removed, stays_placed, Moves}
use Rattle.sig_store.proofs.store.Store.remove.Goals as goal

pub leave_place-place-requires : goal.leave_place-place-requires
leave_place-place-requires g c =
    let at = place_by (get nat_eq c.self.inside.places) (held_at c.self.inside.held) in
    let there = entry-there at (held_at c.self.inside.held) c.self.inside.made c.args.number c.self.invariant.store in
    place-there (held_at c.self.inside.held) (at c.args.number) (subst IsSome there (rw (← c.self.view_is) at c.requires))

pub remove-value-requires : goal.remove-value-requires
remove-value-requires g c =
    let at = place_by (get nat_eq c.self.inside.places) (held_at c.self.inside.held) in
    held-there at (held_at c.self.inside.held) c.self.inside.made c.args.number c.leave_place-place.result c.self.invariant.store c.leave_place-place.ensures.place

pub invariant_of-self : goal.invariant_of-self
invariant_of-self g c =
    let index = get nat_eq c.self.inside.places in
    let look = held_at c.self.inside.held in
    let later = get nat_eq c.leave_place-place.new.places in
    let after = held_at c.remove-value.new.self in
    let made = c.self.inside.made in
    let n = c.args.number in
    let p = c.leave_place-place.result in
    let here = c.leave_place-place.ensures.place in
    let updates = c.remove-value.ensures.updates in
    let moves : Moves index later look after n p None = removed index later look after n p made c.self.invariant here updates.changed updates.others c.leave_place-place.ensures.left in
    stays_placed index later look after n p made made None c.self.invariant moves (omega arith) (λ q e. absurd (cc))
    (λ m e. let none : None ≡ Some m = ap (option_map (λ h. h.number)) (sym updates.changed) ∙ e in absurd (cc))
    (one_place (place_by index look) n p here)

pub returns-clause-value : goal.returns-clause-value
returns-clause-value g c =
    let look = held_at c.self.inside.held in
    rw (← c.self.view_is) (
    entry-there (place_by (get nat_eq c.self.inside.places) look) look c.self.inside.made c.args.number c.self.invariant.store
    ∙ ap (value_there look) c.leave_place-place.ensures.place
    ∙ ap (option_map (λ h. h.value)) c.remove-value.ensures.value
    )

pub returns-clause-entries : goal.returns-clause-entries
returns-clause-entries g c =
    let index = get nat_eq c.self.inside.places in
    let look = held_at c.self.inside.held in
    let later = get nat_eq c.leave_place-place.new.places in
    let after = held_at c.remove-value.new.self in
    let made = c.self.inside.made in
    let n = c.args.number in
    let p = c.leave_place-place.result in
    let here = c.leave_place-place.ensures.place in
    let updates = c.remove-value.ensures.updates in
    let moves : Moves index later look after n p None = removed index later look after n p made c.self.invariant here updates.changed updates.others c.leave_place-place.ensures.left in
    rw (← c.self.view_is) (edited (place_by index look) (place_by later after) look after n p made None moves.edit (c.self.invariant.store.below n p here)
    (ap (value_there after) moves.placed))
