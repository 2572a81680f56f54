use Rattle.std.proofs.Common.{◌≡◌, Some, sym, ap, ◌∙◌, subst, true≢false}
use Rattle.signal_model.specs.Signals.{is_in}
use Rattle.signal_model.specs.Memos.{keeps}
use Rattle.sig_watcher.specs.Reach.{HasSeat}
use Rattle.sig_watcher.proofs.Closure.{adds_as, adds_none}
use Rattle.sig_watcher.proofs.reach.add_keeper.Goals as goal

pub returns-in_default-clause-adds : goal.returns-in_default-clause-adds
returns-in_default-clause-adds c = adds_none c.args.graph.now (λ m. keeps c.args.graph.now.state.memos m c.args.id) c.args.reached.now

pub returns-then-not-is_among-clause-adds : goal.returns-then-not-is_among-clause-adds
returns-then-not-is_among-clause-adds c = adds_none c.args.graph.now (λ m. keeps c.args.graph.now.state.memos m c.args.id) c.args.reached.now

pub returns-then-not-is_among-clause-there : goal.returns-then-not-is_among-clause-there
returns-then-not-is_among-clause-there c = λ m held h.
    let e : Some c.in-Some.name ≡ Some m = c.in-Some.ensures.at ∙ held in
    let who : c.in-Some.name ≡ m = cc in
    absurd (true≢false (sym (ap (λ z. keeps c.args.graph.now.state.memos z c.args.id) who ∙ h) ∙ ap (is_in c.args.id) (sym c.sources.ensures) ∙ sym c.is_among.ensures ∙ c.if-not-is_among.true))

pub returns-clause-adds : goal.returns-clause-adds
returns-clause-adds c =
    let g = c.args.graph.now in
    let keeper = ap (is_in c.args.id) (sym c.sources.ensures) ∙ sym c.is_among.ensures ∙ c.if-not-is_among.false in
    adds_as g (λ m. keeps g.state.memos m c.args.id) c.in-Some.name c.args.reached.now c.add.new.reached keeper c.add.ensures.adds

pub returns-clause-there : goal.returns-clause-there
returns-clause-there c = λ m held h.
    let e : Some c.in-Some.name ≡ Some m = c.in-Some.ensures.at ∙ held in
    let who : c.in-Some.name ≡ m = cc in
    subst (HasSeat c.args.graph.now c.add.new.reached) who c.add.ensures.there
