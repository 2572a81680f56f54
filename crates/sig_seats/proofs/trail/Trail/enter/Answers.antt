use Rattle.std.proofs.Common.{ℕ, ◌∷◌, [], List, length, ap, ◌∙◌, arith}
use Rattle.std.specs.Prelude.{reverse}
use Rattle.std.proofs.lemmas.List.{length-reverse, reverse-append}
use Rattle.sig_seats.proofs.trail.Trail.enter.Goals as goal

pub push_reserved-requires : goal.push_reserved-requires
push_reserved-requires c =
    let len = length-reverse c.self.inside.ids.items in
    let view = ap (λ (ns : List ℕ). length ns) c.self.view_is in
    let room = c.requires in
    let capacity = c.self.invariant in
    omega (arith, len, view, room, capacity)

pub invariant_of-self : goal.invariant_of-self
invariant_of-self c =
    let capacity = c.self.invariant in
    let more = c.push_reserved.ensures.capacity in
    omega (arith, capacity, more)

pub returns : goal.returns
returns c = ap reverse c.push_reserved.ensures.items ∙ reverse-append c.self.inside.ids.items (c.args.id ∷ []) ∙ ap (λ (ns : List ℕ). c.args.id ∷ ns) c.self.view_is
