use Rattle.std.proofs.Common.{false, subst, sym, ap, ◌∙◌}
use Rattle.sig_base.specs.declared.value.Outcome.TheVariants.{Good}
use Rattle.sig_base.specs.Values.{same_outcome}
use Rattle.signal_model.specs.Values.{Seen}
use Rattle.effect_runs.specs.Evaluations.{IsToldOf}
use Rattle.effect_runs.proofs.due.cell_still.Goals as goal

pub returns-in-Good : goal.returns-in-Good
returns-in-Good c =
    subst (λ (s : Seen). IsToldOf c.args.graph.now.state.signals s c.same.result) c.read.view_is
    (record {
      value = c.in_ok-value.value.now;
      stands = sym c.in_ok-value.ensures;
      same = c.same.ensures.value ∙ ap (same_outcome (Good c.in_ok-value.value.now)) (sym c.in-Good.is);
    })

pub returns-in-Bad : goal.returns-in-Bad
returns-in-Bad c =
    subst (λ (s : Seen). IsToldOf c.args.graph.now.state.signals s false) c.read.view_is
    (record {
      value = c.in_ok-value.value.now;
      stands = sym c.in_ok-value.ensures;
      same = ap (same_outcome (Good c.in_ok-value.value.now)) (sym c.in-Bad.is);
    })
