use Rattle.std.proofs.Common.{◌≡◌, refl, ap, ◌∙◌, arith}
use Rattle.sig_graph.specs.States.{State}
use Rattle.sig_computed.proofs.Runs.{kept_run}
use Rattle.sig_computed.proofs.settler.keep_in.Goals as goal

pub returns-clause-kept : goal.returns-clause-kept
returns-clause-kept c = λ reads same.
    let a = c.in_ok-list.ensures.after in
    record {
      signals = ap (λ (s : State). s.signals) a.state;
      memos = ap (λ (s : State). s.memos) a.state
          ∙ kept_run c.args.graph.now.state.memos c.args.node c.args.outcome.now c.args.outcome.now c.args.names.now reads refl same;
      progress = ap (λ (s : State). s.progress) a.state;
      worn = ap (λ (s : State). s.worn) a.state;
      seats = c.in_ok-list.ensures.seats;
      given = a.given;
      steps = let e : c.keep_reads.new.self.state.looked ≡ c.args.graph.now.state.looked = ap (λ (s : State). s.looked) a.state in omega (arith, e);
    }
