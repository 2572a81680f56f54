use Rattle.std.proofs.Common.{drop, sym, ap, ◌∙◌, subst, arith}
use Rattle.std.specs.Prelude.{slice_get}
use Rattle.signal_model.specs.Signals.{standing}
use Rattle.signal_model.specs.Memos.{holds_cycle, sources_of}
use Rattle.sig_graph.specs.SourceLooks.{named, HasNextPlace, IsSourceLook}
use Rattle.sig_graph.specs.States.{is_computing}
use Rattle.sig_computed.specs.Skips.{passed_over}
use Rattle.sig_computed.specs.Views.{evaluating}
use Rattle.sig_computed.proofs.Leaves.{idle_kind}
use Rattle.sig_computed.proofs.Looks.{look_none, source_ready, stays_here}
use Rattle.sig_computed.proofs.Sources.{name_at, named_inside}
use Rattle.sig_computed.proofs.turns.look.Goals as goal

pub returns-in-Past-clause-turn : goal.returns-in-Past-clause-turn
returns-in-Past-clause-turn c =
    let s = c.args.graph.now.state in
    let ss = sources_of s.memos c.args.frame.now.id in
    let none = subst (IsSourceLook s c.args.frame.now.id (slice_get ss c.args.place)) c.in-Past.is c.look_at_source.ensures.look in
    look_none s.signals s.memos (evaluating s) (passed_over s.signals s.memos c.args.visited.now) c.args.visited.now (holds_cycle s.memos c.args.frame.now.id) c.args.place
    (drop c.args.place ss) (sym (ap named none) ∙ name_at ss c.args.place)

pub returns-in-Past-clause-after : goal.returns-in-Past-clause-after
returns-in-Past-clause-after c = stays_here c.args.graph.now _

pub look_into-requires-clause-name : goal.look_into-requires-clause-name
look_into-requires-clause-name c =
    let s = c.args.graph.now.state in
    let ss = sources_of s.memos c.args.frame.now.id in
    let is = subst (IsSourceLook s c.args.frame.now.id (slice_get ss c.args.place)) c.in-Due.is c.look_at_source.ensures.look in
    sym is.0.named ∙ name_at ss c.args.place

pub look_into-requires-clause-inside : goal.look_into-requires-clause-inside
look_into-requires-clause-inside c =
    let s = c.args.graph.now.state in
    let ss = sources_of s.memos c.args.frame.now.id in
    let is = subst (IsSourceLook s c.args.frame.now.id (slice_get ss c.args.place)) c.in-Due.is c.look_at_source.ensures.look in
    named_inside ss c.args.place c.in-Due.id is.0.named

pub look_into-requires-clause-small : goal.look_into-requires-clause-small
look_into-requires-clause-small c =
    let next = subst (HasNextPlace c.args.place) c.in-Due.is c.look_at_source.ensures.next in
    omega (arith, next)

pub look_into-requires-clause-idle : goal.look_into-requires-clause-idle
look_into-requires-clause-idle c =
    let s = c.args.graph.now.state in
    let ss = sources_of s.memos c.args.frame.now.id in
    let is = subst (IsSourceLook s c.args.frame.now.id (slice_get ss c.args.place)) c.in-Due.is c.look_at_source.ensures.look in
    idle_kind (standing s.signals c.in-Due.id) (is_computing s c.in-Due.id) is.0.computed is.0.idle

pub look_into-requires-clause-told : goal.look_into-requires-clause-told
look_into-requires-clause-told c =
    let s = c.args.graph.now.state in
    let ss = sources_of s.memos c.args.frame.now.id in
    let is = subst (IsSourceLook s c.args.frame.now.id (slice_get ss c.args.place)) c.in-Due.is c.look_at_source.ensures.look in
    sym is.1

pub look_into-requires-in-Marked-clause-name : goal.look_into-requires-in-Marked-clause-name
look_into-requires-in-Marked-clause-name c =
    let s = c.args.graph.now.state in
    let ss = sources_of s.memos c.args.frame.now.id in
    let is = subst (IsSourceLook s c.args.frame.now.id (slice_get ss c.args.place)) c.in-Marked.is c.look_at_source.ensures.look in
    sym is.named ∙ name_at ss c.args.place

pub look_into-requires-in-Marked-clause-inside : goal.look_into-requires-in-Marked-clause-inside
look_into-requires-in-Marked-clause-inside c =
    let s = c.args.graph.now.state in
    let ss = sources_of s.memos c.args.frame.now.id in
    let is = subst (IsSourceLook s c.args.frame.now.id (slice_get ss c.args.place)) c.in-Marked.is c.look_at_source.ensures.look in
    named_inside ss c.args.place c.in-Marked.id is.named

pub look_into-requires-in-Marked-clause-small : goal.look_into-requires-in-Marked-clause-small
look_into-requires-in-Marked-clause-small c =
    let next = subst (HasNextPlace c.args.place) c.in-Marked.is c.look_at_source.ensures.next in
    omega (arith, next)

pub look_into-requires-in-Marked-clause-idle : goal.look_into-requires-in-Marked-clause-idle
look_into-requires-in-Marked-clause-idle c =
    let s = c.args.graph.now.state in
    let ss = sources_of s.memos c.args.frame.now.id in
    let is = subst (IsSourceLook s c.args.frame.now.id (slice_get ss c.args.place)) c.in-Marked.is c.look_at_source.ensures.look in
    idle_kind (standing s.signals c.in-Marked.id) (is_computing s c.in-Marked.id) is.computed is.idle

pub compared-requires-clause-small : goal.compared-requires-clause-small
compared-requires-clause-small c =
    let next = subst (HasNextPlace c.args.place) c.in-Ready.is c.look_at_source.ensures.next in
    omega (arith, next)

pub compared-requires-clause-moved : goal.compared-requires-clause-moved
compared-requires-clause-moved c =
    let s = c.args.graph.now.state in
    let r = subst (IsSourceLook s c.args.frame.now.id (slice_get (sources_of s.memos c.args.frame.now.id) c.args.place)) c.in-Ready.is c.look_at_source.ensures.look in
    r.moved

pub returns-in-Ready-clause-turn : goal.returns-in-Ready-clause-turn
returns-in-Ready-clause-turn c =
    let s = c.args.graph.now.state in
    let visited = c.args.visited.now in
    let o = slice_get (sources_of s.memos c.args.frame.now.id) c.args.place in
    let r = subst (IsSourceLook s c.args.frame.now.id o) c.in-Ready.is c.look_at_source.ensures.look in
    c.compared.ensures.turn visited r.name r.named (source_ready s visited c.args.frame.now.id o c.in-Ready.moved r)

pub returns-in-Ready-clause-after : goal.returns-in-Ready-clause-after
returns-in-Ready-clause-after c =
    let s = c.args.graph.now.state in
    let o = slice_get (sources_of s.memos c.args.frame.now.id) c.args.place in
    let r = subst (IsSourceLook s c.args.frame.now.id o) c.in-Ready.is c.look_at_source.ensures.look in
    c.compared.ensures.after c.args.visited.now r.name r.named
