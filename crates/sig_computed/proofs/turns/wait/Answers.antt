use Rattle.std.proofs.Common.{sym, ap, ◌∙◌, subst}
use Rattle.signal_model.specs.Signals.{is_in, standing}
use Rattle.signal_model.specs.Sound.{standing_outcome}
use Rattle.sig_computed.specs.Skips.{passed_over}
use Rattle.sig_computed.specs.Steps.{ready_outcome, Move}
use Rattle.sig_computed.specs.Views.{evaluating, or_cycle}
use Rattle.sig_computed.specs.Turns.{AreReadsGiven, move_reads, waits}
use Rattle.sig_computed.proofs.Looks.{evaluating_stays, read_given, waits_read}
use Rattle.sig_computed.proofs.turns.wait.Goals as goal

pub returns-clause-turn : goal.returns-clause-turn
returns-clause-turn c =
    let s = c.args.graph.now.state in
    let a = c.in_ok-ready.ensures.after in
    let over = passed_over s.signals s.memos c.args.visited.now in
    let known = c.args.frame.now.learnt.known in
    let reads = c.args.frame.now.learnt.reads in
    let id = c.slot_of-id.result in
    c.in_ok-turn.ensures.turn
    ∙ waits_read s.signals s.memos (evaluating s) over c.args.slot id c.in_ok-outcome.outcome known reads (sym c.in_ok-ready.ensures.ready ∙ c.if-not-ready.false)
    (c.in_ok-outcome.ensures
    ∙ (λ i. or_cycle (ready_outcome (standing (a.signals i) id) (is_in id (evaluating_stays c.args.graph.now c.is_ready.new.graph _ a i))
    (standing_outcome (a.signals i) (a.memos i) id))))
    ∙ ap (λ m. waits s.signals s.memos (evaluating s) over c.args.slot m known reads) c.slot_of-id.ensures.id

pub returns-clause-given : goal.returns-clause-given
returns-clause-given c =
    let g = c.args.graph.now in
    let known = c.args.frame.now.learnt.known in
    let reads = c.args.frame.now.learnt.reads in
    subst (λ (mv : Move). AreReadsGiven g (move_reads mv)) (sym c.in_ok-turn.ensures.turn)
    (read_given g c.args.slot c.slot_of-id.result c.in_ok-outcome.outcome known reads c.requires.given c.slot_of-id.ensures.given)
