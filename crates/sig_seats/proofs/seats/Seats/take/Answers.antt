use Rattle.std.proofs.Common.{ℕ, Option, ◌≡◌, ◌<◌, ◌+◌, ◌-◌, ◌∷◌, [], List, length, length-append, sym, ap, ◌∙◌, subst, arith, Some}
use Rattle.std.specs.Prelude.{slice_set, vec_capacity}
use Rattle.sig_base.specs.declared.limits.TheConstants.{MOST_NODES}
use Rattle.sig_seats.specs.Seats.{all_seats, with_taken, AreSeats, Seating, holder}
use Rattle.sig_seats.proofs.Occupancy.{all_first, all_holder, all_set, all_size, alike_seats, holder_past, taken_seats, last_free, set_size}
use Rattle.sig_seats.proofs.seats.Seats.take.Goals as goal

pub invariant_of-self : goal.invariant_of-self
invariant_of-self c =
    let h = subst (λ (f : List ℕ). AreSeats c.self.inside.taken.items f (vec_capacity c.self.inside.taken) (vec_capacity c.self.inside.free)) c.in-Some.ensures.items c.self.invariant in
    let e = c.in-Some.ensures.capacity in
    taken_seats c.self.inside.taken.items c.pop.new.self.items c.in-Some.seat c.args.id (vec_capacity c.self.inside.taken) (vec_capacity c.self.inside.free) (vec_capacity c.pop.new.self)
    (omega (arith, e)) h

pub index_mut-requires : goal.index_mut-requires
index_mut-requires c =
    let h = subst (λ (f : List ℕ). AreSeats c.self.inside.taken.items f (vec_capacity c.self.inside.taken) (vec_capacity c.self.inside.free)) c.in-Some.ensures.items c.self.invariant in
    let l = last_free c.self.inside.taken.items c.pop.new.self.items c.in-Some.seat (vec_capacity c.self.inside.taken) (vec_capacity c.self.inside.free) h in
    omega (arith, l.1)

pub returns-in-Some-clause-seats : goal.returns-in-Some-clause-seats
returns-in-Some-clause-seats c =
    let hs = c.self.inside.taken.items in
    let s = c.in-Some.seat in
    let own : Option ℕ = Some c.args.id in
    let h = subst (λ (f : List ℕ). AreSeats hs f (vec_capacity c.self.inside.taken) (vec_capacity c.self.inside.free)) c.in-Some.ensures.items c.self.invariant in
    let l = last_free hs c.pop.new.self.items s (vec_capacity c.self.inside.taken) (vec_capacity c.self.inside.free) h in
    let fewer = ap length c.in-Some.ensures.items in
    alike_seats (all_seats (slice_set hs s own)) (slice_set (all_seats hs) s own) (MOST_NODES - length (slice_set hs s own) + length c.pop.new.self.items)
    (MOST_NODES - length hs + length c.self.inside.free.items - 1) (sym (all_set hs s own l.1))
    (omega (arith, set_size hs s own, fewer, length-append c.pop.new.self.items (s ∷ [])))
    ∙ ap (λ (t : Seating). with_taken t s c.args.id) c.self.view_is

pub returns-in-Some-clause-free : goal.returns-in-Some-clause-free
returns-in-Some-clause-free c =
    let h = subst (λ (f : List ℕ). AreSeats c.self.inside.taken.items f (vec_capacity c.self.inside.taken) (vec_capacity c.self.inside.free)) c.in-Some.ensures.items c.self.invariant in
    sym (ap (λ (s : Seating). holder s.holders c.in-Some.seat) c.self.view_is) ∙ all_holder c.self.inside.taken.items c.in-Some.seat
    ∙ (last_free c.self.inside.taken.items c.pop.new.self.items c.in-Some.seat (vec_capacity c.self.inside.taken) (vec_capacity c.self.inside.free) h).0

pub returns-in-Some-clause-inside : goal.returns-in-Some-clause-inside
returns-in-Some-clause-inside c =
    let h = subst (λ (f : List ℕ). AreSeats c.self.inside.taken.items f (vec_capacity c.self.inside.taken) (vec_capacity c.self.inside.free)) c.in-Some.ensures.items c.self.invariant in
    let l = (last_free c.self.inside.taken.items c.pop.new.self.items c.in-Some.seat (vec_capacity c.self.inside.taken) (vec_capacity c.self.inside.free) h).1 in
    let few = c.self.invariant.few in
    let all = all_size c.self.inside.taken.items few in
    subst (λ (s : Seating). c.in-Some.seat < length s.holders) c.self.view_is (omega (arith, l, few, all))

pub returns-in-None-clause-seats : goal.returns-in-None-clause-seats
returns-in-None-clause-seats c =
    let hs = c.self.inside.taken.items in
    let own : Option ℕ = Some c.args.id in
    let none = c.in-None.ensures.cases.0 in
    let kept = ap length c.in-None.ensures.items ∙ length-append c.pop.new.self.items [] in
    let room = subst (λ (t : Seating). 0 < t.free) (sym c.self.view_is) c.requires in
    let few : length hs < MOST_NODES = omega (arith, room, none, c.self.invariant.few) in
    let more = ap length c.push_reserved.ensures.items in
    let seat : c.len-seat.result ≡ length hs = omega (arith, c.len-seat.ensures) in
    alike_seats (all_seats c.push_reserved.new.self.items) (slice_set (all_seats hs) c.len-seat.result own) (MOST_NODES - length c.push_reserved.new.self.items + length c.pop.new.self.items)
    (MOST_NODES - length hs + length c.self.inside.free.items - 1)
    (ap all_seats c.push_reserved.ensures.items ∙ sym (ap (λ s. slice_set (all_seats hs) s own) seat ∙ all_first hs own few))
    (omega (arith, few, none, kept, more, length-append hs (own ∷ [])))
    ∙ ap (λ (t : Seating). with_taken t c.len-seat.result c.args.id) c.self.view_is

pub returns-in-None-clause-free : goal.returns-in-None-clause-free
returns-in-None-clause-free c =
    sym (ap (λ (s : Seating). holder s.holders c.len-seat.result) c.self.view_is) ∙ all_holder c.self.inside.taken.items c.len-seat.result
    ∙ sym (holder_past c.self.inside.taken.items c.len-seat.result (omega arith))

pub returns-in-None-clause-inside : goal.returns-in-None-clause-inside
returns-in-None-clause-inside c =
    let hs = c.self.inside.taken.items in
    let none = c.in-None.ensures.cases.0 in
    let room = subst (λ (t : Seating). 0 < t.free) (sym c.self.view_is) c.requires in
    let few = c.self.invariant.few in
    let all = all_size hs few in
    subst (λ (t : Seating). c.len-seat.result < length t.holders) c.self.view_is (omega (arith, room, none, few, all, c.len-seat.ensures))
