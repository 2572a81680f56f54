use Rattle.std.proofs.Common.{inl, inr, [], ◌∷◌, Some, sym, ◌∙◌, subst, arith}
use Rattle.std.specs.Prelude.{slice_set}
use Rattle.sig_marks.specs.Sets.{HasRoom, Links}
use Rattle.sig_marks.proofs.LinkedSets.{at_linked, at_spare, linked, linked_gap, linked_room}
use Rattle.sig_marks.proofs.links.link_at.Goals as goal

pub returns-then-not-stands_in-clause-on : goal.returns-then-not-stands_in-clause-on
returns-then-not-stands_in-clause-on c =
    let ss = c.args.sets.now.entries in
    subst (λ z. Links ss ss (z ∷ []) c.args.reader) c.number-id.ensures (linked_gap ss c.number-id.result c.args.reader (sym c.stands_in.ensures ∙ c.if-not-stands_in.true))

pub insert-requires : goal.insert-requires
insert-requires c =
    let ss = c.args.sets.now.entries in
    let n = c.number-id.result in
    let here = c.value_mut-readers.ensures.value in
    elim (subst (HasRoom ss c.args.reader) (sym c.number-id.ensures) c.requires) [
      | inl on ↦ inl (at_linked ss n c.args.reader c.value_mut-readers.result.now here ∙ on)
      | inr room ↦ inr (let e = at_spare ss n c.args.reader c.value_mut-readers.result.now here in omega (arith, e, room))
    ]

pub returns-clause-on : goal.returns-clause-on
returns-clause-on c =
    let ss = c.args.sets.now.entries in
    subst (λ z. Links ss (slice_set ss c.number-id.result (Some c.insert.new.self)) (z ∷ []) c.args.reader) c.number-id.ensures
    (linked ss c.number-id.result c.args.reader c.insert.new.self c.value_mut-readers.result.now c.value_mut-readers.ensures.value c.insert.ensures.on)

pub returns-clause-room : goal.returns-clause-room
returns-clause-room c = linked_room c.args.sets.now.entries c.number-id.result c.args.reader c.insert.new.self c.value_mut-readers.result.now c.value_mut-readers.ensures.value c.insert.ensures.on
