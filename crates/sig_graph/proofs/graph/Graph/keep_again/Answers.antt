use Rattle.std.proofs.Common.{◌≡◌, ◌&&◌, not, ◌+◌, ◌<◌, refl, ℕ, List, is_some, length, map, sym, ap, ◌∙◌, subst}
use Rattle.std.specs.List.{All}
use Rattle.std.proofs.lemmas.List.{length-map}
use Rattle.signal_model.specs.Memos.{Memo, is_cycle, named_now, source_names, sources_in}
use Rattle.mark_laws.specs.Marked.{ended}
use Rattle.sig_marks.specs.Tables.{marked_at}
use Rattle.sig_nodes.specs.declared.node.Node.{Node}
use Rattle.sig_nodes.specs.Computations.{paired, renewed}
use Rattle.sig_graph.specs.States.{Seen, is_computing, with_kept_run}
use Rattle.sig_graph.specs.Places.{NodesAgree, KeepsMarks}
use Rattle.sig_nodes.specs.Nodes.{body_at, changed_at, memo_body, number_at, run_node}
use Rattle.sig_graph.specs.Parts.{memos_of, state_of}
use Rattle.sig_graph.proofs.Parts.{progress_found}
use Rattle.sig_nodes.proofs.Shared.{changed_length, memo_made, computed_live}
use Rattle.sig_graph.proofs.StateEdits.{run_state}
use Rattle.sig_graph.proofs.Consistency.{became, computed_below, computing_here, given_below, run_holds}
use Rattle.sig_graph.proofs.KeptFinds.{raised_kept}
use Rattle.sig_graph.proofs.KeptMarks.{linked_here, links_same, run_is, run_kept, same_table}
use Rattle.sig_graph.proofs.Lookups.{names_now, paired_here}
use Rattle.sig_graph.proofs.graph.Graph.keep_again.Goals as goal

pub renew_memo_at-requires-clause-live : goal.renew_memo_at-requires-clause-live
renew_memo_at-requires-clause-live c =
    computing_here (body_at c.self.inside.nodes.items c.args.id) (sym (ap is_some (progress_found c.self.inside.nodes.items c.args.id)) ∙ ap (λ (s : Seen). is_computing s.state c.args.id) c.self.view_is ∙ c.requires.computing)

pub renew_memo_at-requires-clause-numbers : goal.renew_memo_at-requires-clause-numbers
renew_memo_at-requires-clause-numbers c = ap length c.in_ok-marked.ensures.numbers ∙ length-map c.args.reads.now (number_at c.self.inside.nodes.items)

pub end_mark-requires-clause-stands : goal.end_mark-requires-clause-stands
end_mark-requires-clause-stands c =
    let live = computing_here (body_at c.self.inside.nodes.items c.args.id) (sym (ap is_some (progress_found c.self.inside.nodes.items c.args.id)) ∙ ap (λ (s : Seen). is_computing s.state c.args.id) c.self.view_is ∙ c.requires.computing) in
    c.self.invariant.marks.standing.live c.args.id (computed_live (body_at c.self.inside.nodes.items c.args.id) live)

pub end_mark-requires-clause-place : goal.end_mark-requires-clause-place
end_mark-requires-clause-place c =
    let live = computing_here (body_at c.self.inside.nodes.items c.args.id) (sym (ap is_some (progress_found c.self.inside.nodes.items c.args.id)) ∙ ap (λ (s : Seen). is_computing s.state c.args.id) c.self.view_is ∙ c.requires.computing) in
    subst (λ z. c.args.id < z) (sym c.self.invariant.marks.flags) (computed_below c.self.inside.nodes.items c.args.id live)

pub invariant_of-self-2 : goal.invariant_of-self-2
invariant_of-self-2 c =
    let xs = c.self.inside.nodes.items in
    let g = c.self.inside.generation in
    let t = c.self.inside.marks in
    let o = c.args.outcome.now in
    let ys = c.renew_memo_at.new.nodes.items in
    let rs = c.args.reads.now in
    let names : source_names (sources_in (memo_body (body_at xs c.args.id))) ≡ rs = rw c.in-Some.is at c.in_ok-list.ensures.same in
    let numbers = c.in_ok-marked.ensures.numbers in
    let memo = ap (λ ss. memo_made o ss g) ((λ i. paired (names i) (numbers i)) ∙ paired_here xs g rs) in
    let made = memo_made o (map (named_now (memos_of g xs)) rs) g in
    let changed : ys ≡ changed_at (run_node (renewed (memo_body (body_at xs c.args.id)) o c.look_over.new.numbers.items g)) c.args.id xs = rw c.in-Some.is at c.in_ok-list.ensures.kept in
    let nodes = changed ∙ ap (λ (m : Memo). changed_at (run_node m) c.args.id xs) memo in
    let given = given_below c.args.self.now (state_of xs c.self.inside.generation c.self.inside.looked c.self.inside.worn) c.self.inside.seats.holders (length xs) rs c.self.view_is c.requires.given in
    let named = subst (λ (ns : List ℕ). All (λ m. m < length xs) ns) (sym (names_now (memos_of g xs) rs)) given in
    let on = sym (ap is_some (progress_found c.self.inside.nodes.items c.args.id)) ∙ ap (λ (s : Seen). is_computing s.state c.args.id) c.self.view_is ∙ c.requires.computing in
    let link = links_same c.args.id xs t.dependants rs (linked_here c.args.id xs g t c.self.invariant.marks) names in
    let unmarks = c.run_unmarks-unmarks.ensures ∙ ap (λ b. not (is_cycle o) && not b) c.in_ok-marked.ensures.marked ∙ run_is xs t.marked o rs in
    let marks = run_kept o rs c.args.id xs g t t.dependants c.end_mark.new.marks.marked on link c.end_mark.ensures.size
    (λ m. c.end_mark.ensures.marks m ∙ (λ i. ended (marked_at t.marked) c.args.id (unmarks i) m)) c.self.invariant.marks in
    record {
      fields = subst (λ (ys : List Node). NodesAgree ys c.self.inside.seats g (c.self.inside.worn + 1)) (sym nodes) (run_holds made c.args.id xs c.self.inside.seats g c.self.inside.worn named c.self.invariant.fields);
      marks = subst (λ (ys : List Node). KeepsMarks ys g c.end_mark.new.marks) (sym nodes)
          (same_table (changed_at (run_node made) c.args.id xs) g c.end_mark.new.marks t.dependants c.end_mark.new.marks.marked t.stands c.end_mark.ensures.dependants refl c.end_mark.ensures.stands marks);
      found = raised_kept xs c.renew_memo_at.new.nodes.items g g c.self.inside.worn c.self.inside.finds c.self.invariant.found;
    }

pub returns-clause-after : goal.returns-clause-after
returns-clause-after c =
    let xs = c.self.inside.nodes.items in
    let ys = c.renew_memo_at.new.nodes.items in
    let g = c.self.inside.generation in
    let l = c.self.inside.looked in
    let w = c.self.inside.worn in
    let o = c.args.outcome.now in
    let rs = c.args.reads.now in
    let live = computing_here (body_at c.self.inside.nodes.items c.args.id) (sym (ap is_some (progress_found c.self.inside.nodes.items c.args.id)) ∙ ap (λ (s : Seen). is_computing s.state c.args.id) c.self.view_is ∙ c.requires.computing) in
    let names : source_names (sources_in (memo_body (body_at xs c.args.id))) ≡ rs = rw c.in-Some.is at c.in_ok-list.ensures.same in
    let numbers = c.in_ok-marked.ensures.numbers in
    let memo = ap (λ ss. memo_made c.args.outcome.now ss g) ((λ i. paired (names i) (numbers i)) ∙ paired_here xs g rs) in
    let made = memo_made c.args.outcome.now (map (named_now (memos_of g xs)) rs) g in
    let changed : ys ≡ changed_at (run_node (renewed (memo_body (body_at xs c.args.id)) o c.look_over.new.numbers.items g)) c.args.id xs = rw c.in-Some.is at c.in_ok-list.ensures.kept in
    let nodes = changed ∙ ap (λ (m : Memo). changed_at (run_node m) c.args.id xs) memo in
    let len = ap length nodes ∙ changed_length (run_node made) c.args.id xs in
    became c.args.self.now (state_of xs g l w) (state_of ys g l (w + 1)) (with_kept_run c.args.self.now.state c.args.id c.args.outcome.now rs) c.self.inside.seats.holders c.self.inside.seats.holders (length xs) (length ys) c.self.view_is len
    (ap (λ zs. state_of zs g l (w + 1)) nodes ∙ run_state xs c.args.id c.args.outcome.now rs g l w live ∙ ap (λ (s : Seen). with_kept_run s.state c.args.id c.args.outcome.now rs) c.self.view_is)
