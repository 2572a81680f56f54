use Rattle.std.proofs.Common.{◌≡◌, true, sym, subst}
use Rattle.std.specs.List.{All}
use Rattle.sig_nodes.specs.Listed.{Listed}
use Rattle.sig_graph.specs.States.{is_given, with_kept_run, Becomes}
use Rattle.sig_graph.proofs.graph.Graph.keep_run.Goals as goal

pub keep_list-requires-clause-given : goal.keep_list-requires-clause-given
keep_list-requires-clause-given c = subst (λ (l : Listed). All (λ n. is_given c.args.self.now n ≡ true) l.items) (sym c.in_ok-reads.ensures) c.requires.given

pub returns-clause-after : goal.returns-clause-after
returns-clause-after c =
    subst (λ (l : Listed). Becomes c.args.self.now c.keep_list.new.self (with_kept_run c.args.self.now.state c.args.id c.args.outcome l.items)) c.in_ok-reads.ensures
    c.in_ok-keep_list.ensures.after
