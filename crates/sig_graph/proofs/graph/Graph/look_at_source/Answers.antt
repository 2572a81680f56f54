use Rattle.std.proofs.Common.{Option, sym, ap, ◌∙◌, subst}
use Rattle.std.specs.Prelude.{slice_get}
use Rattle.signal_model.specs.Memos.{Memo, sources_in, sources_of}
use Rattle.sig_nodes.specs.declared.node.Body.{Body}
use Rattle.sig_nodes.specs.Nodes.{memo_body}
use Rattle.sig_graph.specs.Parts.{state_of}
use Rattle.sig_graph.specs.SourceLooks.{IsLookHere, IsSourceLook}
use Rattle.sig_graph.specs.States.{Seen}
use Rattle.sig_graph.proofs.KeptLooks.{look_found, none_kept}
use Rattle.sig_graph.proofs.Parts.{memo_found}
use Rattle.sig_graph.proofs.graph.Graph.look_at_source.Goals as goal

pub returns-in-Some-clause-look : goal.returns-in-Some-clause-look
returns-in-Some-clause-look c =
    let xs = c.self.inside.nodes.items in
    let g = c.self.inside.generation in
    let l = c.self.inside.looked in
    let w = c.self.inside.worn in
    let t = c.self.inside.marks in
    let id = c.args.id in
    let place = c.args.place in
    let r = c.place_look.result in
    let here = subst (λ (b : Body). IsLookHere xs t.marked g (memo_body b) (slice_get (sources_in (memo_body b)) place) r) (sym c.in-Some.ensures.some)
    (c.place_look.ensures.look g c.self.invariant.found) in
    subst (λ (s : Seen). IsSourceLook s.state id (slice_get (sources_of s.state.memos id) place) r) c.self.view_is
    (subst (λ (m : Option Memo). IsSourceLook (state_of xs g l w) id (slice_get (sources_in m) place) r) (sym (memo_found xs g id))
    (look_found xs g l w id t _ r c.self.invariant.marks here))

pub returns-in-None-clause-look : goal.returns-in-None-clause-look
returns-in-None-clause-look c =
    sym (ap (λ (s : Seen). slice_get (sources_of s.state.memos c.args.id) c.args.place) c.self.view_is)
    ∙ none_kept c.self.inside.nodes.items c.self.inside.generation c.args.id c.args.place c.in-None.ensures.none
