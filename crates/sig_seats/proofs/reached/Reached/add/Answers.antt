use Rattle.std.proofs.Common.{◌++◌, ◌∷◌, [], ℕ, true, List, length, length-append, ap, sym, ◌∙◌, subst, arith}
use Rattle.std.specs.Prelude.{slice_set, vec_capacity}
use Rattle.signal_model.specs.Signals.{is_in}
use Rattle.sig_seats.specs.Flags.{AreReached}
use Rattle.sig_seats.proofs.Flagged.{reached_more, room_more}
use Rattle.sig_seats.proofs.reached.Reached.add.Goals as goal

pub index_mut-requires : goal.index_mut-requires
index_mut-requires c =
    let size = c.self.invariant.size in
    let inside = c.requires.inside in
    omega (arith, size, inside)

pub push_reserved-requires : goal.push_reserved-requires
push_reserved-requires c =
    let off = ap (λ (ss : List ℕ). is_in c.args.seat ss) c.self.view_is ∙ c.requires.fresh in
    let more = room_more c.self.inside.flags.items c.self.inside.seats.items (vec_capacity c.self.inside.seats) c.args.seat c.self.invariant c.requires.inside off in
    let room = c.self.invariant.room in
    omega (arith, more, room)

pub invariant_of-self : goal.invariant_of-self
invariant_of-self c =
    let off = ap (λ (ss : List ℕ). is_in c.args.seat ss) c.self.view_is ∙ c.requires.fresh in
    let kept = c.push_reserved.ensures.capacity in
    subst (λ (ss : List ℕ). AreReached (slice_set c.self.inside.flags.items c.args.seat true) ss (vec_capacity c.push_reserved.new.self)) (sym c.push_reserved.ensures.items)
    (reached_more c.self.inside.flags.items c.self.inside.seats.items (vec_capacity c.self.inside.seats) (vec_capacity c.push_reserved.new.self) c.args.seat c.self.invariant c.requires.inside off (omega (arith, kept)))

pub returns-clause-seats : goal.returns-clause-seats
returns-clause-seats c = c.push_reserved.ensures.items ∙ ap (λ (ss : List ℕ). ss ++ c.args.seat ∷ []) c.self.view_is

pub returns-clause-room : goal.returns-clause-room
returns-clause-room c =
    let off = ap (λ (ss : List ℕ). is_in c.args.seat ss) c.self.view_is ∙ c.requires.fresh in
    let more = room_more c.self.inside.flags.items c.self.inside.seats.items (vec_capacity c.self.inside.seats) c.args.seat c.self.invariant c.requires.inside off in
    let len = ap (λ (ss : List ℕ). length ss) c.push_reserved.ensures.items ∙ length-append c.self.inside.seats.items (c.args.seat ∷ []) in
    omega (arith, more, len)
