use Rattle.std.proofs.Common.{◌≡◌, OnOk, subst}
use Rattle.sig_graph.specs.States.{Seen, with_kept_run, Becomes}
use Rattle.sig_graph.proofs.graph.Graph.keep_reads.Goals as goal

pub returns-in_default-clause-after : goal.returns-in_default-clause-after
returns-in_default-clause-after c =
    let same : c.keep_again.new.self ≡ c.args.self.now = rw c.in_default.is at c.in_ok-list.ensures.other in
    subst (λ (s : Seen). OnOk c.keep_anew.result (Becomes s c.keep_anew.new.self (with_kept_run s.state c.args.id c.args.outcome.now c.args.reads.now))) same c.keep_anew.ensures.after
