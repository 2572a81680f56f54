use Rattle.std.proofs.Common.{◌≡◌, ◌+◌, ◌≤◌, true, length, refl, sym, ap, ◌∙◌, subst}
use Rattle.signal_model.specs.Signals.{Stands, is_in, standing}
use Rattle.sig_nodes.specs.declared.node.Body.{Body}
use Rattle.sig_nodes.specs.Nodes.{slots_body, stands_of}
use Rattle.sig_graph.specs.Parts.{state_of}
use Rattle.sig_graph.specs.Reading.{HasReadOn, IsReachedHere, reached_steps}
use Rattle.sig_graph.specs.States.{Seen, is_given}
use Rattle.sig_graph.proofs.Consistency.{became, below_given}
use Rattle.sig_graph.proofs.Parts.{stands}
use Rattle.sig_graph.proofs.ReadOn.{names_read, no_read_on, reached_found, read_on_found}
use Rattle.sig_graph.proofs.graph.Graph.read_on.Goals as goal

pub returns-in_default-clause-read : goal.returns-in_default-clause-read
returns-in_default-clause-read c = no_read_on c.args.self.now.state c.args.id c.args.known.now.items c.args.reads.now.items

pub returns-clause-read : goal.returns-clause-read
returns-clause-read c =
    subst
    (λ (s : Seen). HasReadOn s.state c.args.id c.args.known.now.items c.args.reads.now.items c.read_slots.new.known.items c.read_slots.new.reads.items)
    c.self.view_is
    (read_on_found c.self.inside.nodes.items c.self.inside.generation c.self.inside.looked c.self.inside.worn c.args.id c.self.inside.marks
    c.in-Some.computation.now c.args.known.now.items c.read_slots.new.known.items c.args.reads.now.items c.read_slots.new.reads.items
    c.self.invariant.marks c.in-Some.ensures.some c.in_ok-reached.ensures.read)

pub returns-clause-reached : goal.returns-clause-reached
returns-clause-reached c =
    let here = sym (stands c.self.inside.nodes.items c.args.id ∙ ap (stands_of c.args.id) c.in-Some.ensures.some)
    ∙ ap (λ (s : Seen). standing s.state.signals c.args.id) c.self.view_is in
    let known = c.read_slots.new.known.items in
    let o = c.read_slots.new.outcome in
    subst (λ (st : Stands). IsReachedHere c.in_ok-reached.reached st known o) here
    (reached_found c.in_ok-reached.reached (record { name = c.args.id; recipe = c.in-Some.computation.now.recipe }) known o c.in_ok-reached.ensures.reached)

pub returns-clause-given : goal.returns-clause-given
returns-clause-given c = λ all.
    let xs = c.self.inside.nodes.items in
    let st = state_of xs c.self.inside.generation c.self.inside.looked c.self.inside.worn in
    names_read (λ n. is_given c.args.self.now n ≡ true) xs c.self.inside.marks.marked c.in-Some.computation.now.recipe c.args.known.now.items
    c.read_slots.new.known.items c.args.reads.now.items c.read_slots.new.reads.items
    (λ m q. below_given c.args.self.now st c.self.inside.seats.holders (length xs) m c.self.view_is
    (c.self.invariant.fields.slots c.args.id m (ap (λ (b : Body). is_in m (slots_body b)) c.in-Some.ensures.some ∙ q)))
    c.in_ok-reached.ensures.read all

pub returns-clause-steps : goal.returns-clause-steps
returns-clause-steps c =
    subst (λ n. c.read_slots.new.looked + length c.args.known.now.items ≤ n + length c.read_slots.new.known.items + reached_steps c.in_ok-reached.reached)
    (ap (λ (s : Seen). s.state.looked) c.self.view_is) c.in_ok-reached.ensures.steps

pub returns-clause-after : goal.returns-clause-after
returns-clause-after c =
    let xs = c.self.inside.nodes.items in
    let g = c.self.inside.generation in
    let l = c.read_slots.new.looked in
    let w = c.self.inside.worn in
    became c.args.self.now (state_of xs g c.self.inside.looked w) (state_of xs g l w) (record c.args.self.now.state { looked = l })
    c.self.inside.seats.holders c.self.inside.seats.holders (length xs) (length xs) c.self.view_is refl
    (ap (λ (s : Seen). record s.state { looked = l }) c.self.view_is)

pub returns-clause-seats : goal.returns-clause-seats
returns-clause-seats c = ap (λ (s : Seen). s.seats) c.self.view_is
