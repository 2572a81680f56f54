use Rattle.std.proofs.Common.{◌≡◌}
use Rattle.std.specs.Option.{option_copied}
use Rattle.sig_formula.specs.Machines.{IsReached}
use Rattle.sig_formula.specs.Trees.{tree}
use Rattle.sig_formula.proofs.Progress.{measure}
use Rattle.sig_formula.proofs.resume.Paused.run.Given as goal

abbrev pub invariant-steps : goal.invariant-steps
invariant-steps l = record {
  reached : IsReached l.tracking l.self (tree l.f) (option_copied l.row) l.tracked l.aside;
  program : l.self.program ≡ l.fn.self.program;
}

abbrev pub decreases-steps : goal.decreases-steps
decreases-steps l = measure l.tracking l.self (tree l.f) (option_copied l.row) l.tracked l.aside
