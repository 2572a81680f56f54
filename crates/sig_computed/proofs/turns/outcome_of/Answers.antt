use Rattle.std.proofs.Common.{◌≡◌, subst}
use Rattle.std.specs.Prelude.{IfOk}
use Rattle.signal_model.specs.Signals.{standing, is_in}
use Rattle.signal_model.specs.Memos.{memo_of}
use Rattle.sig_graph.specs.States.{is_computing}
use Rattle.sig_computed.specs.Views.{evaluating}
use Rattle.sig_computed.proofs.Leaves.{shown_read}
use Rattle.sig_computed.proofs.Progresses.{in_evaluating}
use Rattle.sig_computed.proofs.turns.outcome_of.Goals as goal

pub returns : goal.returns
returns c =
    let s = c.args.graph.now.state in
    subst (λ x. IfOk c.shown.result (λ o. o ≡ x))
    (shown_read (standing s.signals c.args.id) (is_computing s c.args.id) (is_in c.args.id (evaluating s)) (memo_of s.memos c.args.id)
    (in_evaluating s c.args.id)) c.shown.ensures
