use Rattle.std.proofs.Common.{refl, sym, subst}
use Rattle.sig_computed.specs.declared.frames.Doing.{Doing}
use Rattle.sig_computed.specs.Reading.{IsLearntBy}
use Rattle.sig_computed.proofs.turns.comes_to_run.Goals as goal

-- it runs
pub returns-in-Running-clause-run : goal.returns-in-Running-clause-run
returns-in-Running-clause-run c =
    let f = c.args.frame.now in
    (c.in-Running.is, subst (λ (d : Doing). IsLearntBy d c.args.graph.now f.id f.learnt f.learnt) (sym c.in-Running.is) refl)
