use Rattle.std.specs.Prelude.{IfSome}
use Rattle.std.proofs.Common.{◌≡◌, Bool, Option, cond, false, sym, ap, ◌∙◌, subst}
use Rattle.signal_model.specs.Marks.{mark_of}
use Rattle.signal_model.specs.Signals.{standing, is_in}
use Rattle.sig_graph.specs.Looks.{is_clean_mark}
use Rattle.sig_graph.specs.States.{is_computing}
use Rattle.sig_computed.specs.Skips.{passed_over}
use Rattle.sig_computed.specs.Views.{evaluating, Stays}
use Rattle.sig_computed.proofs.Leaves.{kind_computed, ready_computed}
use Rattle.sig_computed.proofs.Looks.{over_clean, over_visited, stays_compared}
use Rattle.sig_computed.proofs.Progresses.{in_evaluating}
use Rattle.sig_computed.proofs.turns.is_settled.Goals as goal

pub returns-then-has-clause-ready : goal.returns-then-has-clause-ready
returns-then-has-clause-ready c =
    let s = c.args.graph.now.state in
    let visited = c.args.visited.now in
    sym (over_visited s.signals s.memos visited c.args.id (sym (sym c.if-has.true ∙ c.in_ok-has.ensures.has)))
    ∙ ready_computed (standing s.signals c.args.id) (is_computing s c.args.id) (is_in c.args.id (evaluating s))
    (is_in c.args.id (passed_over s.signals s.memos visited)) c.requires.idle (in_evaluating s c.args.id)

pub returns-in-Some-clause-ready : goal.returns-in-Some-clause-ready
returns-in-Some-clause-ready c =
    let s = c.args.graph.now.state in
    let visited = c.args.visited.now in
    subst (λ (o : Option Bool). IfSome o (λ b. b ≡ is_clean_mark (mark_of s.signals s.memos c.args.id))) c.in-Some.is c.requires.told
    ∙ over_clean s.signals s.memos visited c.args.id (kind_computed (standing s.signals c.args.id) (is_computing s c.args.id) c.requires.idle)
    (sym (sym c.if-has.false ∙ c.in_ok-has.ensures.has))
    ∙ ready_computed (standing s.signals c.args.id) (is_computing s c.args.id) (is_in c.args.id (evaluating s))
    (is_in c.args.id (passed_over s.signals s.memos visited)) c.requires.idle (in_evaluating s c.args.id)

pub returns-in-Some-clause-after : goal.returns-in-Some-clause-after
returns-in-Some-clause-after c =
    let s = c.args.graph.now.state in
    let off = (sym c.if-has.false ∙ c.in_ok-has.ensures.has)
    ∙ ready_computed (standing s.signals c.args.id) (is_computing s c.args.id) (is_in c.args.id (evaluating s))
    (is_in c.args.id c.args.visited.now) c.requires.idle (in_evaluating s c.args.id) in
    subst (Stays c.args.graph.now c.count_step.new.self s.progress) (ap (λ b. cond b 0 1) off)
    (stays_compared c.args.graph.now c.count_step.new.self false c.count_step.ensures.after c.count_step.ensures.seats)

pub returns-in-None-clause-ready : goal.returns-in-None-clause-ready
returns-in-None-clause-ready c =
    let s = c.args.graph.now.state in
    let visited = c.args.visited.now in
    c.is_clean.ensures.clean
    ∙ over_clean s.signals s.memos visited c.args.id (kind_computed (standing s.signals c.args.id) (is_computing s c.args.id) c.requires.idle)
    (sym (sym c.if-has.false ∙ c.in_ok-has.ensures.has))
    ∙ ready_computed (standing s.signals c.args.id) (is_computing s c.args.id) (is_in c.args.id (evaluating s))
    (is_in c.args.id (passed_over s.signals s.memos visited)) c.requires.idle (in_evaluating s c.args.id)

pub returns-in-None-clause-after : goal.returns-in-None-clause-after
returns-in-None-clause-after c =
    let s = c.args.graph.now.state in
    let off = (sym c.if-has.false ∙ c.in_ok-has.ensures.has)
    ∙ ready_computed (standing s.signals c.args.id) (is_computing s c.args.id) (is_in c.args.id (evaluating s))
    (is_in c.args.id c.args.visited.now) c.requires.idle (in_evaluating s c.args.id) in
    subst (Stays c.args.graph.now c.is_clean.new.graph s.progress) (ap (λ b. cond b 0 1) off) c.is_clean.ensures.after
