use Rattle.std.proofs.Common.{◌≡◌, Some, sym, ap, ◌∙◌}
use Rattle.signal_model.specs.Memos.{keeps}
use Rattle.sig_graph.specs.Search.{of_holder}
use Rattle.sig_seats.specs.Seats.{holder}
use Rattle.sig_watcher.proofs.Closure.{adds_from, adds_none}
use Rattle.sig_watcher.proofs.reach.add_from.Goals as goal

pub returns-in_default-clause-adds : goal.returns-in_default-clause-adds
returns-in_default-clause-adds c =
    let g = c.args.graph.now in
    adds_none g (λ m. of_holder (keeps g.state.memos m) (holder g.seats c.args.seat)) c.args.reached.now

pub returns-clause-adds : goal.returns-clause-adds
returns-clause-adds c =
    adds_from c.args.graph.now c.args.seat c.in-Some.name c.args.reached.now c.add_dependants.new.reached (sym c.in-Some.ensures.at) c.add_dependants.ensures.adds

pub returns-clause-there : goal.returns-clause-there
returns-clause-there c = λ m p held h.
    let e : Some c.in-Some.name ≡ Some p = c.in-Some.ensures.at ∙ held in
    let who : p ≡ c.in-Some.name = cc in
    c.add_dependants.ensures.there m (ap (λ z. keeps c.args.graph.now.state.memos m z) (sym who) ∙ h)
