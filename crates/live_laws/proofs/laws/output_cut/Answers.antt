use Rattle.live_laws.proofs.Cuts.{run_law, trace_law}
use Rattle.live_laws.proofs.laws.output_cut.Goals as goal

pub returns-clause-run : goal.returns-clause-run
returns-clause-run c = run_law c.items_cut.ensures c.one_list.ensures.some c.one_list.ensures.one

pub returns-clause-trace : goal.returns-clause-trace
returns-clause-trace c = trace_law c.items_cut.ensures c.one_list.ensures.some c.one_list.ensures.one
