use Rattle.std.proofs.Common.{◌≡◌, Some, false, drop, sym, ap, ◌∙◌}
use Rattle.std.specs.Prelude.{◌&&◌, not}
use Rattle.signal_model.specs.Memos.{holds_cycle, sources_of}
use Rattle.sig_computed.specs.Steps.{decided}
use Rattle.sig_computed.specs.Skips.{passed_over}
use Rattle.sig_computed.specs.Views.{evaluating, first_name, move_of}
use Rattle.sig_computed.proofs.Looks.{look_decides, stays_compared, stays_source}
use Rattle.sig_computed.proofs.Sources.{moved_at, name_at}
use Rattle.sig_computed.proofs.turns.compared.Goals as goal

pub returns-clause-turn : goal.returns-clause-turn
returns-clause-turn c = λ visited n is ready.
    let s = c.args.graph.now.state in
    let ss = sources_of s.memos c.args.frame.now.id in
    let place = c.args.place in
    let cycle = holds_cycle s.memos c.args.frame.now.id in
    let name : Some n ≡ first_name (drop place ss) = sym is ∙ name_at ss place in
    c.go_on.ensures.turn
    ∙ ap (λ m. decided false m place) (c.requires.moved ∙ ap (λ b. not cycle && b) (moved_at s ss place))
    ∙ look_decides s.signals s.memos (evaluating s) (passed_over s.signals s.memos visited) visited cycle place (drop place ss) n name ready

pub returns-clause-after : goal.returns-clause-after
returns-clause-after c = λ visited n is.
    let g = c.args.graph.now in
    let ss = sources_of g.state.memos c.args.frame.now.id in
    let name : Some n ≡ first_name (drop c.args.place ss) = sym is ∙ name_at ss c.args.place in
    stays_source g c.count_step.new.self visited (drop c.args.place ss) n (move_of c.go_on.result c.go_on.new.frame) name c.go_on.ensures.steps
    (stays_compared g c.count_step.new.self false c.count_step.ensures.after c.count_step.ensures.seats)
