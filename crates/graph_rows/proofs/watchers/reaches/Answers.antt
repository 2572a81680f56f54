use Rattle.std.proofs.Common.{◌∙◌, ap, sym, subst}
use Rattle.sig_graph.specs.States.{is_given, CanWear, Seen}
use Rattle.graph_rows.proofs.Ones.{one_passes}
use Rattle.graph_rows.proofs.watchers.reaches.Goals as goal

pub keep_run-requires-clause-given : goal.keep_run-requires-clause-given
keep_run-requires-clause-given c =
    one_passes (is_given c.are_pending.new.graph) c.args.a c.in_ok-reads.reads.items c.in_ok-reads.ensures
    (ap (λ (g : Seen). is_given g c.args.a) c.are_pending.ensures ∙ c.requires.given)

pub keep_run-requires-clause-worn : goal.keep_run-requires-clause-worn
keep_run-requires-clause-worn c = subst (λ (g : Seen). CanWear g.state) (sym c.are_pending.ensures) c.requires.worn
