use Rattle.std.proofs.Common.{refl, Bool, ◌&&◌, not}
use Rattle.signal_model.specs.Memos.{is_cycle}
use Rattle.mark_laws.specs.Marked.{ended}
use Rattle.sig_marks.specs.Tables.{marked_at, stands_at}
use Rattle.sig_graph.specs.Search.{some_marked_at}
use Rattle.sig_graph.proofs.KeptFinds.{raised_kept}
use Rattle.sig_graph.proofs.KeptMarks.{linked_here, names_below, run_is, run_kept, same_table}
use Rattle.std.proofs.Common.{◌≡◌, ◌+◌, ◌<◌, true, List, length, map, sym, ap, ◌∙◌, subst, is_some}
use Rattle.std.specs.List.{All}
use Rattle.signal_model.specs.Memos.{Memo, named_now}
use Rattle.sig_nodes.specs.declared.node.Node.{Node}
use Rattle.sig_graph.specs.States.{Seen, is_computing, with_kept_run}
use Rattle.sig_graph.specs.Places.{LinksAnew, NodesAgree, KeepsMarks}
use Rattle.sig_nodes.specs.Nodes.{body_at, changed_at, number_at, run_node}
use Rattle.sig_graph.specs.Parts.{memos_of, state_of}
use Rattle.sig_graph.proofs.Parts.{progress_found}
use Rattle.sig_nodes.proofs.Shared.{changed_length, memo_made, computed_live}
use Rattle.sig_graph.proofs.StateEdits.{run_state}
use Rattle.sig_graph.proofs.Consistency.{became, computed_below, computing_here, given_below, run_holds}
use Rattle.std.proofs.Common.{ℕ}
use Rattle.sig_nodes.specs.Computations.{paired}
use Rattle.sig_graph.proofs.Lookups.{names_now, paired_here}
use Rattle.sig_graph.proofs.graph.Graph.keep_list.Goals as goal

pub keep_memo_at-requires-clause-live : goal.keep_memo_at-requires-clause-live
keep_memo_at-requires-clause-live c = computing_here (body_at c.self.inside.nodes.items c.args.id) (sym (ap is_some (progress_found c.self.inside.nodes.items c.args.id)) ∙ ap (λ (s : Seen). is_computing s.state c.args.id) c.self.view_is ∙ c.requires.computing)

pub relink-requires-clause-sources : goal.relink-requires-clause-sources
relink-requires-clause-sources c =
    let xs = c.self.inside.nodes.items in
    names_below xs c.self.inside.seats c.self.inside.generation c.self.inside.worn c.args.id c.self.inside.marks c.self.invariant.fields c.self.invariant.marks

pub relink-requires-clause-reads : goal.relink-requires-clause-reads
relink-requires-clause-reads c =
    let xs = c.self.inside.nodes.items in
    let t = c.self.inside.marks in
    let given = given_below c.args.self.now (state_of xs c.self.inside.generation c.self.inside.looked c.self.inside.worn) c.self.inside.seats.holders (length xs) c.args.reads.items c.self.view_is c.requires.given in
    subst (λ (ns : List ℕ). All (λ m. m < length t.marked) ns) (sym c.as_slice-ids.ensures) (subst (λ z. All (λ m. m < z) c.args.reads.items) (sym c.self.invariant.marks.flags) given)

pub relink-requires-clause-reader : goal.relink-requires-clause-reader
relink-requires-clause-reader c =
    let live = computing_here (body_at c.self.inside.nodes.items c.args.id) (sym (ap is_some (progress_found c.self.inside.nodes.items c.args.id)) ∙ ap (λ (s : Seen). is_computing s.state c.args.id) c.self.view_is ∙ c.requires.computing) in
    subst (λ z. c.args.id < z) (sym c.self.invariant.marks.flags) (computed_below c.self.inside.nodes.items c.args.id live)

pub relink-requires-clause-standing : goal.relink-requires-clause-standing
relink-requires-clause-standing c = c.self.invariant.marks.standing

pub relink-requires-clause-linked : goal.relink-requires-clause-linked
relink-requires-clause-linked c = linked_here c.args.id c.self.inside.nodes.items c.self.inside.generation c.self.inside.marks c.self.invariant.marks

pub end_mark-requires-clause-stands : goal.end_mark-requires-clause-stands
end_mark-requires-clause-stands c =
    let live = computing_here (body_at c.self.inside.nodes.items c.args.id) (sym (ap is_some (progress_found c.self.inside.nodes.items c.args.id)) ∙ ap (λ (s : Seen). is_computing s.state c.args.id) c.self.view_is ∙ c.requires.computing) in
    subst (λ (ss : List Bool). stands_at ss c.args.id ≡ true) (sym c.relink.ensures.stands)
    (c.self.invariant.marks.standing.live c.args.id (computed_live (body_at c.self.inside.nodes.items c.args.id) live))

pub end_mark-requires-clause-place : goal.end_mark-requires-clause-place
end_mark-requires-clause-place c =
    let live = computing_here (body_at c.self.inside.nodes.items c.args.id) (sym (ap is_some (progress_found c.self.inside.nodes.items c.args.id)) ∙ ap (λ (s : Seen). is_computing s.state c.args.id) c.self.view_is ∙ c.requires.computing) in
    subst (λ z. c.args.id < z) (sym (ap (λ (us : List Bool). length us) c.relink.ensures.marks ∙ c.self.invariant.marks.flags)) (computed_below c.self.inside.nodes.items c.args.id live)

pub invariant_of-self-2 : goal.invariant_of-self-2
invariant_of-self-2 c =
    let xs = c.self.inside.nodes.items in
    let g = c.self.inside.generation in
    let t = c.self.inside.marks in
    let o = c.args.outcome in
    let rs = c.args.reads.items in
    let numbers = c.in_ok-marked.ensures.numbers ∙ ap (map (number_at xs)) c.as_slice-ids.ensures in
    let sources = ap (paired rs) numbers ∙ paired_here xs g rs in
    let memo = c.new-memo.ensures ∙ ap (λ ss. memo_made o ss g) sources in
    let made = memo_made o (map (named_now (memos_of g xs)) rs) g in
    let nodes = c.keep_memo_at.ensures ∙ ap (λ (m : Memo). changed_at (run_node m) c.args.id xs) memo in
    let given = given_below c.args.self.now (state_of xs g c.self.inside.looked c.self.inside.worn) c.self.inside.seats.holders (length xs) rs c.self.view_is c.requires.given in
    let named = subst (λ (ns : List ℕ). All (λ m. m < length xs) ns) (sym (names_now (memos_of g xs) rs)) given in
    let on = sym (ap is_some (progress_found c.self.inside.nodes.items c.args.id)) ∙ ap (λ (s : Seen). is_computing s.state c.args.id) c.self.view_is ∙ c.requires.computing in
    let link = subst (λ (ns : List ℕ). LinksAnew xs t.dependants c.relink.new.marks.dependants c.args.id ns) c.as_slice-ids.ensures c.in_ok-relink.ensures.after in
    let unmarks = c.run_unmarks-unmarks.ensures ∙ (λ i. not (is_cycle o) && not (c.in_ok-marked.ensures.marked i))
    ∙ (λ i. not (is_cycle o) && not (some_marked_at xs t.marked (c.as_slice-ids.ensures i))) ∙ run_is xs t.marked o rs in
    let size = c.end_mark.ensures.size ∙ ap (λ (us : List Bool). length us) c.relink.ensures.marks in
    let marks = run_kept o rs c.args.id xs g t c.relink.new.marks.dependants c.end_mark.new.marks.marked on link size
    (λ m. c.end_mark.ensures.marks m ∙ (λ i. ended (marked_at (c.relink.ensures.marks i)) c.args.id (unmarks i) m)) c.self.invariant.marks in
    record {
      fields = subst (λ (ys : List Node). NodesAgree ys c.self.inside.seats g (c.self.inside.worn + 1)) (sym nodes) (run_holds made c.args.id xs c.self.inside.seats g c.self.inside.worn named c.self.invariant.fields);
      marks = subst (λ (ys : List Node). KeepsMarks ys g c.end_mark.new.marks) (sym nodes)
          (same_table (changed_at (run_node made) c.args.id xs) g c.end_mark.new.marks c.relink.new.marks.dependants c.end_mark.new.marks.marked t.stands c.end_mark.ensures.dependants refl (c.end_mark.ensures.stands ∙ c.relink.ensures.stands) marks);
      found = raised_kept xs c.keep_memo_at.new.nodes.items g g c.self.inside.worn c.self.inside.finds c.self.invariant.found;
    }

pub returns-clause-after : goal.returns-clause-after
returns-clause-after c =
    let xs = c.self.inside.nodes.items in
    let ys = c.keep_memo_at.new.nodes.items in
    let g = c.self.inside.generation in
    let l = c.self.inside.looked in
    let w = c.self.inside.worn in
    let live = computing_here (body_at c.self.inside.nodes.items c.args.id) (sym (ap is_some (progress_found c.self.inside.nodes.items c.args.id)) ∙ ap (λ (s : Seen). is_computing s.state c.args.id) c.self.view_is ∙ c.requires.computing) in
    let numbers = c.in_ok-marked.ensures.numbers ∙ ap (map (number_at xs)) c.as_slice-ids.ensures in
    let sources = ap (paired c.args.reads.items) numbers ∙ paired_here xs g c.args.reads.items in
    let memo = c.new-memo.ensures ∙ ap (λ ss. memo_made c.args.outcome ss g) sources in
    let made = memo_made c.args.outcome (map (named_now (memos_of g xs)) c.args.reads.items) g in
    let nodes = c.keep_memo_at.ensures ∙ ap (λ (m : Memo). changed_at (run_node m) c.args.id xs) memo in
    let len = ap length nodes ∙ changed_length (run_node made) c.args.id xs in
    became c.args.self.now (state_of xs g l w) (state_of ys g l (w + 1)) (with_kept_run c.args.self.now.state c.args.id c.args.outcome c.args.reads.items) c.self.inside.seats.holders c.self.inside.seats.holders (length xs) (length ys) c.self.view_is len
    (ap (λ zs. state_of zs g l (w + 1)) nodes ∙ run_state xs c.args.id c.args.outcome c.args.reads.items g l w live ∙ ap (λ (s : Seen). with_kept_run s.state c.args.id c.args.outcome c.args.reads.items) c.self.view_is)

pub returns-clause-seats : goal.returns-clause-seats
returns-clause-seats c = ap (λ (s : Seen). s.seats) c.self.view_is
