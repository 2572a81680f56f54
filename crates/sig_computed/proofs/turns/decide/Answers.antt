use Rattle.std.proofs.Common.{false, sym, ap, ◌∙◌, subst}
use Rattle.std.specs.Prelude.{◌&&◌, not}
use Rattle.signal_model.specs.Memos.{holds_cycle, sources_of}
use Rattle.sig_computed.specs.Steps.{decided}
use Rattle.sig_computed.specs.Views.{Stays}
use Rattle.sig_computed.proofs.Looks.{stays_compared}
use Rattle.sig_computed.proofs.Sources.{moved_at}
use Rattle.sig_computed.proofs.turns.decide.Goals as goal

pub returns-clause-turn : goal.returns-clause-turn
returns-clause-turn c =
    let s = c.args.graph.now.state in
    let cycle = holds_cycle s.memos c.args.frame.now.id in
    c.go_on.ensures.turn
    ∙ ap (λ m. decided false m c.args.place)
    (c.compare-moved.ensures.moved ∙ ap (λ b. not cycle && b) (moved_at s (sources_of s.memos c.args.frame.now.id) c.args.place))

pub returns-clause-after : goal.returns-clause-after
returns-clause-after c =
    let g = c.args.graph.now in
    subst (Stays g c.compare-moved.new.self g.state.progress) (sym c.go_on.ensures.steps)
    (stays_compared g c.compare-moved.new.self (holds_cycle g.state.memos c.args.frame.now.id) c.compare-moved.ensures.after c.compare-moved.ensures.seats)
