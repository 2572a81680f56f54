use Rattle.std.proofs.Common.{sym, ◌∙◌, drop}
use Rattle.signal_model.specs.Memos.{holds_cycle, sources_of}
use Rattle.sig_computed.specs.Steps.{decided}
use Rattle.sig_computed.specs.Skips.{passed_over}
use Rattle.sig_computed.specs.Views.{evaluating, first_moved}
use Rattle.sig_computed.proofs.Looks.{evaluating_stays, look_decides}
use Rattle.sig_computed.proofs.turns.look_into.Goals as goal

pub returns-clause-turn : goal.returns-clause-turn
returns-clause-turn c =
    let s = c.args.graph.now.state in
    let a = c.in_ok-ready.ensures.after in
    let visited = c.args.visited.now in
    c.decide.ensures.turn
    ∙ (λ i. decided (holds_cycle (a.memos i) c.args.frame.now.id)
    (first_moved (a.memos i) (evaluating_stays c.args.graph.now c.is_settled.new.graph _ a i) (drop c.args.place (sources_of (a.memos i) c.args.frame.now.id))) c.args.place)
    ∙ look_decides s.signals s.memos (evaluating s) (passed_over s.signals s.memos visited) visited (holds_cycle s.memos c.args.frame.now.id) c.args.place
    (drop c.args.place (sources_of s.memos c.args.frame.now.id)) c.args.id c.requires.name (sym c.in_ok-ready.ensures.ready ∙ c.if-not-ready.false)
