use Rattle.std.proofs.Common.{sym, ◌∙◌, arith}
use Rattle.std.specs.Prelude.{get_or}
use Rattle.sig_seats.specs.Flags.{is_up}
use Rattle.sig_seats.proofs.Flagged.{down_size, in_get, lowered_end, lowered_step}
use Rattle.sig_seats.proofs.reached.lower.Goals as goal

pub index_mut-requires : goal.index_mut-requires
index_mut-requires c =
    let i = c.loop-seat.seat-index in
    let inside = c.requires (get_or c.args.seats.now i 0) (in_get c.args.seats.now i c.loop-seat-test.true) in
    let size = c.loop-seat.invariant.size in
    omega (arith, inside, size)

pub loop-seat-preserved : goal.loop-seat-preserved
loop-seat-preserved c =
    let i = c.loop-seat.seat-index in
    record {
      flags = λ s. lowered_step c.loop-seat.flags.items c.args.seats.now i s c.loop-seat-test.true ∙ c.loop-seat.invariant.flags s;
      size = down_size c.loop-seat.flags.items (get_or c.args.seats.now i 0) ∙ c.loop-seat.invariant.size;
    }

pub returns-clause-flags : goal.returns-clause-flags
returns-clause-flags c = λ s.
    sym (lowered_end (is_up c.loop-seat.flags.items s) s c.args.seats.now c.loop-seat.seat-index (omega arith)) ∙ c.loop-seat.invariant.flags s
