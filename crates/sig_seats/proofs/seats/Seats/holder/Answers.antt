use Rattle.std.proofs.Common.{ap, sym, ◌∙◌, arith}
use Rattle.sig_seats.specs.Seats.{Seating, holder}
use Rattle.sig_seats.proofs.Occupancy.{all_holder, holder_past, holder_read}
use Rattle.sig_seats.proofs.seats.Seats.holder.Goals as goal

pub returns-then-seat-len : goal.returns-then-seat-len
returns-then-seat-len c =
    holder_read c.self.inside.taken.items c.args.seat c.index.result.now (omega arith) c.index.ensures ∙ sym (all_holder c.self.inside.taken.items c.args.seat)
    ∙ ap (λ (s : Seating). holder s.holders c.args.seat) c.self.view_is

pub returns-else-seat-len : goal.returns-else-seat-len
returns-else-seat-len c =
    holder_past c.self.inside.taken.items c.args.seat (omega arith) ∙ sym (all_holder c.self.inside.taken.items c.args.seat)
    ∙ ap (λ (s : Seating). holder s.holders c.args.seat) c.self.view_is
