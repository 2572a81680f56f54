use Rattle.std.proofs.Common.{◌&&◌, not, if◌then◌else◌, length, sym, ap, ◌∙◌, refl}
use Rattle.std.specs.Prelude.{slice_get}
use Rattle.signal_model.specs.Memos.{holds_cycle, memo_is_cycle, sources_of}
use Rattle.sig_graph.specs.Looks.{has_moved}
use Rattle.sig_graph.specs.States.{Seen, with_look}
use Rattle.sig_graph.specs.Parts.{state_of}
use Rattle.sig_graph.proofs.Consistency.{became}
use Rattle.sig_graph.proofs.Lookups.{moved_found}
use Rattle.sig_graph.proofs.Parts.{memo_found}
use Rattle.sig_graph.proofs.graph.Graph.compare.Goals as goal

pub returns-in-Some-clause-moved : goal.returns-in-Some-clause-moved
returns-in-Some-clause-moved c =
    let xs = c.self.inside.nodes.items in
    let g = c.self.inside.generation in
    let s = c.args.self.now.state in
    let calm = sym (ap (λ (z : Seen). holds_cycle z.state.memos c.args.id) c.self.view_is) ∙ ap memo_is_cycle (memo_found xs g c.args.id) ∙ c.in-Some.ensures.calm in
    c.in-Some.ensures.moved
    ∙ moved_found xs g c.self.inside.looked c.self.inside.worn c.args.id c.args.place
    ∙ ap (λ (z : Seen). has_moved z.state (slice_get (sources_of z.state.memos c.args.id) c.args.place)) c.self.view_is
    ∙ sym (ap (λ b. not b && has_moved s (slice_get (sources_of s.memos c.args.id) c.args.place)) calm)

pub returns-in-Some-clause-after : goal.returns-in-Some-clause-after
returns-in-Some-clause-after c =
    let xs = c.self.inside.nodes.items in
    let g = c.self.inside.generation in
    let w = c.self.inside.worn in
    let s = c.args.self.now.state in
    let calm = sym (ap (λ (z : Seen). holds_cycle z.state.memos c.args.id) c.self.view_is) ∙ ap memo_is_cycle (memo_found xs g c.args.id) ∙ c.in-Some.ensures.calm in
    became c.args.self.now (state_of xs g c.self.inside.looked w) (state_of xs g c.count.new.looked w) (if holds_cycle s.memos c.args.id then s else with_look s) c.self.inside.seats.holders c.self.inside.seats.holders (length xs) (length xs)
    c.self.view_is refl
    (ap (λ l. state_of xs g l w) c.count.ensures ∙ ap (λ (z : Seen). with_look z.state) c.self.view_is ∙ sym (ap (λ b. if b then s else with_look s) calm))

pub returns-in-Some-clause-seats : goal.returns-in-Some-clause-seats
returns-in-Some-clause-seats c = ap (λ (s : Seen). s.seats) c.self.view_is

pub returns-in-None-clause-moved : goal.returns-in-None-clause-moved
returns-in-None-clause-moved c =
    let s = c.args.self.now.state in
    let cycle = sym (ap (λ (z : Seen). holds_cycle z.state.memos c.args.id) c.self.view_is) ∙ ap memo_is_cycle (memo_found c.self.inside.nodes.items c.self.inside.generation c.args.id) ∙ c.in-None.ensures.cycle in
    sym (ap (λ b. not b && has_moved s (slice_get (sources_of s.memos c.args.id) c.args.place)) cycle)

pub returns-in-None-clause-after : goal.returns-in-None-clause-after
returns-in-None-clause-after c =
    let s = c.args.self.now.state in
    let cycle = sym (ap (λ (z : Seen). holds_cycle z.state.memos c.args.id) c.self.view_is) ∙ ap memo_is_cycle (memo_found c.self.inside.nodes.items c.self.inside.generation c.args.id) ∙ c.in-None.ensures.cycle in
    record { state = sym (ap (λ b. if b then s else with_look s) cycle); given = refl }
