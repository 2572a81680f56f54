use Rattle.std.proofs.Common.{◌≡◌, true, sym, subst}
use Rattle.signal_model.specs.Signals.{is_in}
use Rattle.sig_seats.proofs.Shared.{in_get}
use Rattle.sig_graph.proofs.KeptFinds.{noted_kept}
use Rattle.sig_graph.proofs.search.note_fresh.Goals as goal

pub loop-number-preserved : goal.loop-number-preserved
loop-number-preserved c = λ xs g due kept.
    let listed = subst (λ n. is_in n c.args.fresh.now ≡ true) (sym c.of.ensures) (in_get c.args.fresh.now c.loop-number.number-index c.loop-number-test.true) in
    noted_kept xs g c.args.worn c.of.result c.loop-number.finds c.note.new.self (due c.of.result listed) c.note.ensures.others (c.loop-number.invariant xs g due kept)
