use Rattle.std.proofs.Common.{◌&&◌, not, Option, sym, ap, ◌∙◌}
use Rattle.std.specs.Prelude.{slice_get}
use Rattle.signal_model.specs.Memos.{Memo, holds_cycle, memo_is_cycle, sources_in, sources_of}
use Rattle.sig_nodes.specs.declared.node.Body.{Body}
use Rattle.sig_nodes.specs.Nodes.{has_moved_body, memo_body}
use Rattle.sig_graph.specs.Looks.{has_moved}
use Rattle.sig_graph.specs.Parts.{memos_of}
use Rattle.sig_graph.specs.SourceLooks.{named}
use Rattle.sig_graph.specs.States.{Seen}
use Rattle.sig_graph.proofs.Lookups.{moved_any}
use Rattle.sig_graph.proofs.Parts.{memo_found}
use Rattle.sig_graph.proofs.graph.Graph.moved_source.Goals as goal

pub returns-clause-named : goal.returns-clause-named
returns-clause-named c =
    let place = c.args.place in
    let id = c.args.id in
    sym (ap (λ (z : Seen). named (slice_get (sources_of z.state.memos id) place)) c.self.view_is)
    ∙ ap (λ (m : Option Memo). named (slice_get (sources_in m) place)) (memo_found c.self.inside.nodes.items c.self.inside.generation id)
    ∙ ap (λ (b : Body). named (slice_get (sources_in (memo_body b)) place)) c.in_ok-computation.ensures.some
    ∙ c.in_ok-moved.ensures.named

pub returns-clause-moved : goal.returns-clause-moved
returns-clause-moved c =
    let xs = c.self.inside.nodes.items in
    let g = c.self.inside.generation in
    let place = c.args.place in
    let id = c.args.id in
    let o = slice_get (sources_of (memos_of g xs) id) place in
    c.in_ok-moved.ensures.moved
    ∙ sym (ap (λ (b : Body). not (memo_is_cycle (memo_body b)) && has_moved_body xs (slice_get (sources_in (memo_body b)) place)) c.in_ok-computation.ensures.some)
    ∙ sym (ap (λ (m : Option Memo). not (memo_is_cycle m) && has_moved_body xs (slice_get (sources_in m) place)) (memo_found xs g id))
    ∙ ap (λ b. not (holds_cycle (memos_of g xs) id) && b) (moved_any xs g c.self.inside.looked c.self.inside.worn o)
    ∙ ap (λ (z : Seen). not (holds_cycle z.state.memos id) && has_moved z.state (slice_get (sources_of z.state.memos id) place)) c.self.view_is
