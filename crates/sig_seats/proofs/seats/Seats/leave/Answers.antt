use Rattle.std.proofs.Common.{ℕ, List, length, length-append, sym, ap, ◌∙◌, ◌+◌, ◌-◌, ◌∷◌, [], subst, arith}
use Rattle.std.specs.Prelude.{slice_set, vec_capacity, None}
use Rattle.sig_base.specs.declared.limits.TheConstants.{MOST_NODES}
use Rattle.sig_seats.specs.Seats.{all_seats, with_left, AreSeats, Seating, holder}
use Rattle.sig_seats.proofs.Occupancy.{all_holder, all_set, alike_seats, held_inside, left_seats, set_size}
use Rattle.sig_seats.proofs.seats.Seats.leave.Goals as goal

pub invariant_of-self : goal.invariant_of-self
invariant_of-self c =
    let held = sym (all_holder c.self.inside.taken.items c.args.seat) ∙ ap (λ (s : Seating). holder s.holders c.args.seat) c.self.view_is ∙ c.requires.taken in
    let kept = c.push_reserved.ensures.capacity in
    subst (λ (f : List ℕ). AreSeats (slice_set c.self.inside.taken.items c.args.seat None) f (vec_capacity c.self.inside.taken) (vec_capacity c.push_reserved.new.self)) (sym c.push_reserved.ensures.items)
    (left_seats c.self.inside.taken.items c.self.inside.free.items c.args.seat c.args.id (vec_capacity c.self.inside.taken) (vec_capacity c.self.inside.free) (vec_capacity c.push_reserved.new.self)
    (omega (arith, kept)) held c.self.invariant)

pub index_mut-requires : goal.index_mut-requires
index_mut-requires c =
    let held = sym (all_holder c.self.inside.taken.items c.args.seat) ∙ ap (λ (s : Seating). holder s.holders c.args.seat) c.self.view_is ∙ c.requires.taken in
    let l = held_inside c.self.inside.taken.items c.args.seat c.args.id held in
    omega (arith, l)

pub returns : goal.returns
returns c =
    let hs = c.self.inside.taken.items in
    let s = c.args.seat in
    let held = sym (all_holder hs s) ∙ ap (λ (t : Seating). holder t.holders s) c.self.view_is ∙ c.requires.taken in
    let more = ap length c.push_reserved.ensures.items in
    alike_seats (all_seats (slice_set hs s None)) (slice_set (all_seats hs) s None) (MOST_NODES - length (slice_set hs s None) + length c.push_reserved.new.self.items)
    (MOST_NODES - length hs + length c.self.inside.free.items + 1) (sym (all_set hs s None (held_inside hs s c.args.id held)))
    (omega (arith, set_size hs s None, more, length-append c.self.inside.free.items (s ∷ [])))
    ∙ ap (λ (t : Seating). with_left t s) c.self.view_is
