use Rattle.std.proofs.Common.{◌^◌, ◌-◌, ap, sym, ◌∙◌, nat_eq, Some, is_some, if◌then◌else◌, min, arith}
use Rattle.std.specs.Prelude.{slice_set}
use Rattle.std.specs.Option.{option_map}
use Rattle.indexmap.specs.IndexMap.{get, spare}
use Rattle.slab.specs.Slab.{get as held_at, with_value}
use Rattle.slab.proofs.SlabLemmas.{Updates-with_value}
use Rattle.sig_store.specs.declared.store.Held.{Held}
use Rattle.sig_store.specs.Places.{place_by, value_there}
use Rattle.sig_store.specs.Stored.{Stored, entry}
use Rattle.sig_store.proofs.Edits.{entry-there, held-there, number-there, edited, one_place, count-kept, written, stays_placed, sole, Moves}
use Rattle.sig_store.proofs.store.Store.replace.Goals as goal

pub index_mut-requires : goal.index_mut-requires
index_mut-requires g c =
    held-there (place_by (get nat_eq c.self.inside.places) (held_at c.self.inside.held)) (held_at c.self.inside.held) c.self.inside.made c.args.number c.in-Some.place c.self.invariant.store (sym c.in-Some.ensures)

pub invariant_of-self : goal.invariant_of-self
invariant_of-self g c =
    let index = get nat_eq c.self.inside.places in
    let look = held_at c.self.inside.held in
    let at = place_by index look in
    let made = c.self.inside.made in
    let n = c.args.number in
    let p = c.in-Some.place in
    let here = sym c.in-Some.ensures in
    let now : Held g.row.T.Denot = record { number = c.index_mut.result.now.number; value = c.replace.new.dest } in
    let after = held_at (with_value c.self.inside.held p now) in
    let put = Updates-with_value c.self.inside.held p now (held-there at look made n p c.self.invariant.store here) in
    let number = number-there at look made n p c.index_mut.result.now c.self.invariant.store here c.index_mut.ensures.value in
    let moves : Moves index index look after n p (Some p) = written index look after n p made now c.self.invariant here put.changed number put.others in
    let mine = sole after n p now put.changed number in
    stays_placed index index look after n p made made (Some p) c.self.invariant moves (omega arith) (λ q e. (mine.0 q e, c.self.invariant.store.below n p here)) mine.1
    (one_place at n p here)

pub returns-in-Some-clause-before : goal.returns-in-Some-clause-before
returns-in-Some-clause-before g c =
    let index = get nat_eq c.self.inside.places in
    let look = held_at c.self.inside.held in
    let at = place_by index look in
    let found = sym (ap (λ (s : Stored g.row.T.Denot). entry s.entries c.args.number) c.self.view_is)
    ∙ entry-there at look c.self.inside.made c.args.number c.self.invariant.store ∙ ap (value_there look) (sym c.in-Some.ensures)
    ∙ ap (option_map (λ h. h.value)) c.index_mut.ensures.value in
    ap Some c.replace.ensures.value ∙ sym found

pub returns-in-Some-clause-entries : goal.returns-in-Some-clause-entries
returns-in-Some-clause-entries g c =
    let index = get nat_eq c.self.inside.places in
    let look = held_at c.self.inside.held in
    let at = place_by index look in
    let made = c.self.inside.made in
    let n = c.args.number in
    let p = c.in-Some.place in
    let here = sym c.in-Some.ensures in
    let now : Held g.row.T.Denot = record { number = c.index_mut.result.now.number; value = c.replace.new.dest } in
    let after = held_at (with_value c.self.inside.held p now) in
    let put = Updates-with_value c.self.inside.held p now (held-there at look made n p c.self.invariant.store here) in
    let number = number-there at look made n p c.index_mut.result.now c.self.invariant.store here c.index_mut.ensures.value in
    let moves : Moves index index look after n p (Some p) = written index look after n p made now c.self.invariant here put.changed number put.others in
    let found = sym (ap (λ (s : Stored g.row.T.Denot). entry s.entries n) c.self.view_is)
    ∙ entry-there at look made n c.self.invariant.store ∙ ap (value_there look) here
    ∙ ap (option_map (λ h. h.value)) c.index_mut.ensures.value in
    edited at (place_by index after) look after n p made (Some c.replace.new.dest) moves.edit (c.self.invariant.store.below n p here)
    (ap (value_there after) moves.placed ∙ ap (option_map (λ h. h.value)) put.changed)
    ∙ (λ i. slice_set (c.self.view_is i).entries n (Some (c.replace.ensures.after i)))
    ∙ sym (ap (λ b. if b then slice_set c.args.self.now.entries n (Some c.args.value) else c.args.self.now.entries) (ap is_some found))

pub returns-in-Some-clause-left : goal.returns-in-Some-clause-left
returns-in-Some-clause-left g c =
    let index = get nat_eq c.self.inside.places in
    let look = held_at c.self.inside.held in
    let at = place_by index look in
    let now : Held g.row.T.Denot = record { number = c.index_mut.result.now.number; value = c.replace.new.dest } in
    let present = held-there at look c.self.inside.made c.args.number c.in-Some.place c.self.invariant.store (sym c.in-Some.ensures) in
    ap (λ k. min (min (spare c.self.inside.places) (c.self.inside.held.capacity - k)) (2 ^ 64 - 1 - c.self.inside.made)) (count-kept c.self.inside.held.slots c.in-Some.place now present)
    ∙ ap (λ (s : Stored g.row.T.Denot). s.room) c.self.view_is

pub returns-in-None-clause-before : goal.returns-in-None-clause-before
returns-in-None-clause-before g c =
    let index = get nat_eq c.self.inside.places in
    let look = held_at c.self.inside.held in
    let at = place_by index look in
    sym
    (sym (ap (λ (s : Stored g.row.T.Denot). entry s.entries c.args.number) c.self.view_is)
    ∙ entry-there at look c.self.inside.made c.args.number c.self.invariant.store ∙ ap (value_there look) (sym c.in-None.ensures))

pub returns-in-None-clause-entries : goal.returns-in-None-clause-entries
returns-in-None-clause-entries g c =
    let index = get nat_eq c.self.inside.places in
    let look = held_at c.self.inside.held in
    let at = place_by index look in
    let gone = sym (ap (λ (s : Stored g.row.T.Denot). entry s.entries c.args.number) c.self.view_is)
    ∙ entry-there at look c.self.inside.made c.args.number c.self.invariant.store ∙ ap (value_there look) (sym c.in-None.ensures) in
    sym (ap (λ b. if b then slice_set c.args.self.now.entries c.args.number (Some c.args.value) else c.args.self.now.entries) (ap is_some gone))
