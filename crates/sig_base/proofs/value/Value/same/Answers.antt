use Rattle.sig_base.specs.Values.{same_value-told}
use Rattle.sig_base.specs.declared.value.Value.TheVariants.{Rows}
use Rattle.sig_base.proofs.value.Value.same.Goals as goal

pub returns-in-Rows-Rows-clause-exact : goal.returns-in-Rows-Rows-clause-exact
returns-in-Rows-Rows-clause-exact c = rw (c.in-Rows-Rows.is-0, c.in-Rows-Rows.is-1) (same_value-told _ (Rows c.in-Rows-Rows.t) (Rows c.in-Rows-Rows.u) c.eq-in-Rows-Rows.ensures)
