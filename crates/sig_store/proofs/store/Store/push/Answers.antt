use Rattle.std.proofs.Common.{sym, ap, ◌∙◌, refl, nat_eq, Some, ◌+◌, ◌≡◌, length, arith}
use Rattle.indexmap.specs.IndexMap.{get}
use Rattle.slab.specs.Slab.{get as held_at}
use Rattle.std.specs.Option.{option_map}
use Rattle.sig_store.specs.declared.store.Held.{Held}
use Rattle.sig_store.specs.Places.{place_by, value_there}
use Rattle.sig_store.proofs.Edits.{entries-length, added, pushed, stays_placed, sole, Moves}
use Rattle.sig_store.proofs.store.Store.push.Goals as goal

pub invariant_of-self : goal.invariant_of-self
invariant_of-self g c =
    let index = get nat_eq c.self.inside.places in
    let look = held_at c.self.inside.held in
    let later = get nat_eq c.note.new.places in
    let after = held_at c.insert_reserved-place.new.self in
    let n = c.self.inside.made in
    let p = c.insert_reserved-place.result in
    let updates = c.insert_reserved-place.ensures.updates in
    let put : Held g.row.T.Denot = record { number = n; value = c.args.value } in
    let moves : Moves index later look after n p (Some p) =
    pushed index later look after n p put c.self.invariant c.insert_reserved-place.ensures.was_vacant updates.changed refl updates.others c.note.ensures.noted in
    let mine = sole after n p put updates.changed refl in
    stays_placed index later look after n p n (n + 1) (Some p) c.self.invariant moves (omega arith) (λ q e. (mine.0 q e, omega arith)) mine.1
    (λ q d there. let l = c.self.invariant.store.below n q there in absurd (omega (arith, l)))

pub returns-clause-number : goal.returns-clause-number
returns-clause-number g c = rw (← c.self.view_is) (sym (entries-length _ _ _))

pub returns-clause-entries : goal.returns-clause-entries
returns-clause-entries g c =
    let index = get nat_eq c.self.inside.places in
    let look = held_at c.self.inside.held in
    let later = get nat_eq c.note.new.places in
    let after = held_at c.insert_reserved-place.new.self in
    let n = c.self.inside.made in
    let p = c.insert_reserved-place.result in
    let updates = c.insert_reserved-place.ensures.updates in
    let put : Held g.row.T.Denot = record { number = n; value = c.args.value } in
    let moves : Moves index later look after n p (Some p) =
    pushed index later look after n p put c.self.invariant c.insert_reserved-place.ensures.was_vacant updates.changed refl updates.others c.note.ensures.noted in
    rw (← c.self.view_is) (added (place_by index look) (place_by later after) look after n p (Some c.args.value) moves.edit
    (ap (value_there after) moves.placed ∙ ap (option_map (λ h. h.value)) updates.changed))
