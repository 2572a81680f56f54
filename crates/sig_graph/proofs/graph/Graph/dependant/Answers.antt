use Rattle.std.proofs.Common.{◌≡◌, true, sym, ap, ◌∙◌, subst}
use Rattle.std.specs.Prelude.{slice_get, IfSome}
use Rattle.signal_model.specs.Signals.{is_computed, is_in, is_there, standing}
use Rattle.signal_model.specs.Memos.{keeps}
use Rattle.signal_model.specs.Laws.{AreDistinct}
use Rattle.mark_laws.proofs.Shared.{keeper}
use Rattle.sig_marks.specs.Tables.{dependants_at}
use Rattle.sig_graph.specs.Parts.{memos_of, signals_of}
use Rattle.sig_graph.specs.States.{Seen}
use Rattle.sig_graph.proofs.Lookups.{at_place}
use Rattle.sig_graph.proofs.graph.Graph.dependant.Goals as goal

pub returns-clause-at : goal.returns-clause-at
returns-clause-at c = c.dependant.ensures.at ∙ ap (λ (s : Seen). slice_get (dependants_at s.order c.args.id) c.args.place) c.self.view_is

pub returns-clause-known : goal.returns-clause-known
returns-clause-known c = λ live d.
    let there = ap (λ (s : Seen). is_there (standing s.state.signals c.args.id)) c.self.view_is ∙ live in
    sym (ap (λ (s : Seen). is_in d (dependants_at s.order c.args.id)) c.self.view_is) ∙ c.self.invariant.marks.marked.links c.args.id d there
    ∙ ap (λ (s : Seen). keeps s.state.memos d c.args.id) c.self.view_is

pub returns-clause-once : goal.returns-clause-once
returns-clause-once c = subst (λ (s : Seen). AreDistinct (dependants_at s.order c.args.id)) c.self.view_is c.dependant.ensures.once

pub returns-clause-computed : goal.returns-clause-computed
returns-clause-computed c = λ live.
    let w = signals_of c.self.inside.nodes.items in
    let k = memos_of c.self.inside.generation c.self.inside.nodes.items in
    let there = ap (λ (s : Seen). is_there (standing s.state.signals c.args.id)) c.self.view_is ∙ live in
    subst (λ (s : Seen). IfSome c.dependant.result (λ d. is_computed (standing s.state.signals d) ≡ true)) c.self.view_is
    (at_place (λ d. is_computed (standing w d) ≡ true) (dependants_at c.self.inside.marks.dependants c.args.id) c.args.place c.dependant.result
    (λ d on. keeper w k d c.args.id c.self.invariant.marks.marked.owners (sym (c.self.invariant.marks.marked.links c.args.id d there) ∙ on)) c.dependant.ensures.at)
