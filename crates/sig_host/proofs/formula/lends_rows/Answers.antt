use Rattle.sig_host.proofs.Loans.{lends_each}
use Rattle.sig_host.proofs.formula.lends_rows.Goals as goal

pub returns : goal.returns
returns g c = lends_each (λ h. (goal.HostFormula-dyn g (h.vtable, h.value)).step_of h.value) (λ h. (g.dyn-1-met h.vtable).0.lends_rows h.value) c.args.hosts.now
