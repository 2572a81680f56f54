use Rattle.std.proofs.Common.{◌≡◌, ℕ, Bool, Some, subst, inl, inr, arith}
use Rattle.signal_model.specs.Memos.{keeps}
use Rattle.sig_seats.specs.Seats.{holder}
use Rattle.sig_watcher.proofs.Closure.{adds_more, adds_none, adds_then, below_or, keeper_there}
use Rattle.sig_watcher.proofs.reach.add_keepers.Goals as goal

pub loop-seat-init : goal.loop-seat-init
loop-seat-init c =
    let g = c.args.graph.now in
    record {
      adds = adds_none g (λ m. keeps g.state.memos m c.args.id) c.args.reached.now;
      there = λ m s l. absurd (omega (arith, l));
    }

pub loop-seat-preserved : goal.loop-seat-preserved
loop-seat-preserved c =
    let g = c.args.graph.now in
    let test : ℕ → Bool = λ m. keeps g.state.memos m c.args.id in
    record {
      adds = adds_then g test c.args.reached.now c.loop-seat.reached c.add_keeper.new.reached c.loop-seat.invariant.adds c.add_keeper.ensures.adds;
      there = λ m s l held h. elim (below_or s c.loop-seat.seat l) [
        | inl old ↦ adds_more g test c.loop-seat.reached c.add_keeper.new.reached m c.add_keeper.ensures.adds (c.loop-seat.invariant.there m s old held h)
        | inr e ↦ c.add_keeper.ensures.there m (subst (λ z. holder g.seats z ≡ Some m) e held) h
      ];
    }

pub returns-clause-adds : goal.returns-clause-adds
returns-clause-adds c = c.loop-seat.invariant.adds

pub returns-clause-there : goal.returns-clause-there
returns-clause-there c = λ m h.
    let g = c.args.graph.now in
    let live = keeper_there g.state.signals g.state.memos m c.args.id c.made-made.ensures.keepers h in
    let seated = c.made-made.ensures.seats.each m live in
    let inside = seated.inside in
    c.loop-seat.invariant.there m seated.seat (omega (arith, inside)) seated.holds h
