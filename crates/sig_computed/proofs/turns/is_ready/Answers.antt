use Rattle.std.proofs.Common.{refl, subst}
use Rattle.signal_model.specs.Signals.{standing, is_in}
use Rattle.sig_graph.specs.SourceLooks.{IsSignalLook}
use Rattle.sig_graph.specs.States.{is_computing}
use Rattle.sig_computed.specs.Skips.{look_steps, passed_over}
use Rattle.sig_computed.specs.Views.{evaluating}
use Rattle.sig_computed.proofs.Leaves.{ready_other}
use Rattle.sig_computed.proofs.Looks.{stays_here}
use Rattle.sig_computed.proofs.Progresses.{in_evaluating}
use Rattle.sig_computed.proofs.turns.is_ready.Goals as goal

pub is_settled-requires-clause-idle : goal.is_settled-requires-clause-idle
is_settled-requires-clause-idle c = (subst (IsSignalLook c.args.graph.now.state c.args.id) c.in-Idle.is c.look_at.ensures).0

pub is_settled-requires-clause-told : goal.is_settled-requires-clause-told
is_settled-requires-clause-told c = (subst (IsSignalLook c.args.graph.now.state c.args.id) c.in-Idle.is c.look_at.ensures).1

pub returns-in-Other : goal.returns-in-Other
returns-in-Other c =
    let s = c.args.graph.now.state in
    let visited = c.args.visited.now in
    record {
      ready = ready_other (standing s.signals c.args.id) (is_computing s c.args.id) (is_in c.args.id (evaluating s))
          (is_in c.args.id (passed_over s.signals s.memos visited)) (subst (IsSignalLook s c.args.id) c.in-Other.is c.look_at.ensures) (in_evaluating s c.args.id);
      after = stays_here c.args.graph.now (look_steps (standing s.signals c.args.id) (is_in c.args.id (evaluating s)) (is_in c.args.id visited));
      visited = λ m. refl;
    }
