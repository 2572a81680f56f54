use Rattle.std.proofs.Common.{Bool, false, sym, subst}
use Rattle.signal_model.specs.Signals.{standing}
use Rattle.sig_computed.specs.Reading.{ComesToRun, HasEnded, HasGoneOn}
use Rattle.sig_computed.specs.Steps.{Phase, Running}
use Rattle.sig_computed.specs.Views.{phase_of}
use Rattle.sig_computed.proofs.AfterReads.{learnt_by, none_on}
use Rattle.sig_computed.proofs.turns.read_on.Goals as goal

-- it doesn't run
pub returns-then-not-runs-clause-on : goal.returns-then-not-runs-clause-on
returns-then-not-runs-clause-on c =
    let f = c.args.frame.now in
    let g = c.args.graph.now in
    let p = phase_of f.doing f.learnt in
    let same = subst (λ (b : Bool). ComesToRun b g f c.comes_to_run.new.frame) c.if-not-runs.true c.in_ok-runs.ensures.run in
    subst (λ (q : Phase). HasGoneOn g g f.id p q false) (sym same) (none_on g f.id p)

-- it runs
pub run_on-requires : goal.run_on-requires
run_on-requires c =
    (subst (λ (b : Bool). ComesToRun b c.args.graph.now c.args.frame.now c.comes_to_run.new.frame) c.if-not-runs.false c.in_ok-runs.ensures.run).0

-- it reads on
pub returns-clause-on : goal.returns-clause-on
returns-clause-on c =
    let f = c.args.frame.now in
    let m = c.comes_to_run.new.frame in
    let g = c.args.graph.now in
    let h = c.run_on.new.graph in
    let q = phase_of c.run_on.new.frame.doing c.run_on.new.frame.learnt in
    let run = subst (λ (b : Bool). ComesToRun b g f m) c.if-not-runs.false c.in_ok-runs.ensures.run in
    learnt_by g h f.id f.doing f.learnt m.learnt q c.in_ok-ended.ended run.1
    (subst (λ n. HasGoneOn g h n (Running m.learnt.known m.learnt.reads) q c.in_ok-ended.ended) c.in_ok-runs.ensures.id c.in_ok-ended.ensures.on)

pub returns-clause-ended : goal.returns-clause-ended
returns-clause-ended c = λ e.
    subst (λ n. HasEnded (standing c.args.graph.now.state.signals n) c.run_on.new.frame) c.in_ok-runs.ensures.id (c.in_ok-ended.ensures.ended e)
