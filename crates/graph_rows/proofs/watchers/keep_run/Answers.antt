use Rattle.std.proofs.Common.{◌∙◌}
use Rattle.sig_graph.proofs.Shared.{given_same}
use Rattle.graph_rows.proofs.watchers.keep_run.Goals as goal

pub keep_run-requires-clause-given : goal.keep_run-requires-clause-given
keep_run-requires-clause-given c = λ k d l. given_same _ _ _ c.begin.ensures.after.given ∙ c.requires.given k d l
