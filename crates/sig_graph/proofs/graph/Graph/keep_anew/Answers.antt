use Rattle.std.proofs.Common.{◌≡◌, ℕ, List, true, sym, ap, ◌∙◌, subst}
use Rattle.std.specs.List.{All}
use Rattle.sig_base.specs.declared.value.Outcome.{Outcome}
use Rattle.sig_nodes.specs.Listed.{Listed}
use Rattle.sig_graph.specs.States.{is_given, with_kept_run, Becomes}
use Rattle.sig_graph.proofs.graph.Graph.keep_anew.Goals as goal

pub keep_list-requires-clause-given : goal.keep_list-requires-clause-given
keep_list-requires-clause-given c =
    let same = ap (λ (l : Listed). l.items) (c.in_ok-kept.ensures ∙ c.in_ok-list.ensures) ∙ c.in_ok-ids.ensures in
    subst (λ (ns : List ℕ). All (λ n. is_given c.args.self.now n ≡ true) ns) (sym same) c.requires.given

pub returns-clause-list : goal.returns-clause-list
returns-clause-list c = ap (λ (l : Listed). l.items) c.in_ok-list.ensures ∙ c.in_ok-ids.ensures

pub returns-clause-after : goal.returns-clause-after
returns-clause-after c =
    let same = ap (λ (l : Listed). l.items) (c.in_ok-kept.ensures ∙ c.in_ok-list.ensures) ∙ c.in_ok-ids.ensures in
    let old = c.args.self.now in
    subst (λ (o : Outcome). Becomes old c.keep_list.new.self (with_kept_run old.state c.args.id o c.args.reads.now)) c.in_ok-same.ensures
    (subst (λ (ns : List ℕ). Becomes old c.keep_list.new.self (with_kept_run old.state c.args.id c.in_ok-same.same ns)) same c.in_ok-keep_list.ensures.after)
