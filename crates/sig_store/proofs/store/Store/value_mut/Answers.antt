use Rattle.std.proofs.Common.{◌^◌, ap, subst, ◌∙◌, refl, nat_eq, IsSome, Some, ◌-◌, min, arith}
use Rattle.indexmap.specs.IndexMap.{get, spare}
use Rattle.slab.specs.Slab.{get as held_at, with_value}
use Rattle.slab.proofs.SlabLemmas.{Updates-with_value}
use Rattle.std.specs.Option.{option_map}
use Rattle.sig_store.specs.declared.store.Held.{Held}
use Rattle.sig_store.specs.Places.{place_by, value_there}
use Rattle.sig_store.proofs.Edits.{entry-there, place-there, held-there, number-there, edited, one_place, count-kept, alike, written, stays_placed, sole, Moves}
use Rattle.sig_store.proofs.store.Store.value_mut.Goals as goal

pub standing_place-place-requires-clause-own : goal.standing_place-place-requires-clause-own
standing_place-place-requires-clause-own g c = c.self.invariant.store.own

pub standing_place-place-requires-clause-stands : goal.standing_place-place-requires-clause-stands
standing_place-place-requires-clause-stands g c =
    let at = place_by (get nat_eq c.self.inside.places) (held_at c.self.inside.held) in
    let there = entry-there at (held_at c.self.inside.held) c.self.inside.made c.args.number c.self.invariant.store in
    place-there (held_at c.self.inside.held) (at c.args.number) (subst IsSome there (rw (← c.self.view_is) at c.requires))

pub index_mut-held-requires : goal.index_mut-held-requires
index_mut-held-requires g c =
    let at = place_by (get nat_eq c.self.inside.places) (held_at c.self.inside.held) in
    held-there at (held_at c.self.inside.held) c.self.inside.made c.args.number c.standing_place-place.result c.self.invariant.store c.standing_place-place.ensures

pub invariant_of-self-lent : goal.invariant_of-self-lent
invariant_of-self-lent g c w =
    let index = get nat_eq c.self.inside.places in
    let look = held_at c.self.inside.held in
    let made = c.self.inside.made in
    let n = c.args.number in
    let p = c.standing_place-place.result in
    let here = c.standing_place-place.ensures in
    let now : Held g.row.T.Denot = record { number = c.index_mut-held.result.now.number; value = w } in
    let after = held_at (with_value c.self.inside.held p now) in
    let put = Updates-with_value c.self.inside.held p now (held-there (place_by index look) look made n p c.self.invariant.store here) in
    let number = number-there (place_by index look) look made n p c.index_mut-held.result.now c.self.invariant.store here c.index_mut-held.ensures.value in
    let moves : Moves index index look after n p (Some p) = written index look after n p made now c.self.invariant here put.changed number put.others in
    let mine = sole after n p now put.changed number in
    stays_placed index index look after n p made made (Some p) c.self.invariant moves (omega arith) (λ q e. (mine.0 q e, c.self.invariant.store.below n p here)) mine.1
    (one_place (place_by index look) n p here)

pub returns : goal.returns
returns g c =
    let index = get nat_eq c.self.inside.places in
    let look = held_at c.self.inside.held in
    let at = place_by index look in
    let made = c.self.inside.made in
    let n = c.args.number in
    let p = c.standing_place-place.result in
    let here = c.standing_place-place.ensures in
    let present = held-there at look made n p c.self.invariant.store here in
    let number = number-there at look made n p c.index_mut-held.result.now c.self.invariant.store here c.index_mut-held.ensures.value in (
      (
        refl,
        λ w.
            let now : Held g.row.T.Denot = record { number = c.index_mut-held.result.now.number; value = w } in
            let after = held_at (with_value c.self.inside.held p now) in
            let put = Updates-with_value c.self.inside.held p now present in
            let moves : Moves index index look after n p (Some p) = written index look after n p made now c.self.invariant here put.changed number put.others in
            rw (← c.self.view_is) (alike _ _ _ _
            (edited at (place_by index after) look after n p made (Some w) moves.edit (c.self.invariant.store.below n p here)
            (ap (value_there after) moves.placed ∙ ap (option_map (λ h. h.value)) put.changed))
            (ap (λ k. min (min (spare c.self.inside.places) (c.self.inside.held.capacity - k)) (2 ^ 64 - 1 - c.self.inside.made)) (count-kept c.self.inside.held.slots p now present))),
      ),
      record {
        writes_back = tt;
        value = rw (← c.self.view_is) (entry-there at look made n c.self.invariant.store ∙ ap (value_there look) here ∙ ap (option_map (λ h. h.value)) c.index_mut-held.ensures.value);
      },
    )
