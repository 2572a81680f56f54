use Rattle.std.proofs.Common.{◌≡◌, true, length, ap, ◌∙◌, subst}
use Rattle.signal_model.specs.Signals.{is_in}
use Rattle.sig_nodes.specs.declared.node.Body.{Body}
use Rattle.sig_nodes.specs.Nodes.{slots_body}
use Rattle.sig_formula.specs.Trees.{tree}
use Rattle.sig_graph.specs.Parts.{state_of}
use Rattle.sig_graph.specs.Reading.{IsReadOne}
use Rattle.sig_graph.specs.States.{Seen, is_given}
use Rattle.sig_graph.proofs.Consistency.{below_given}
use Rattle.sig_graph.proofs.ReadOn.{name_read, one_found}
use Rattle.sig_graph.proofs.graph.Graph.read_slot.Goals as goal

pub returns-clause-read : goal.returns-clause-read
returns-clause-read c =
    subst
    (λ (s : Seen). IsReadOne c.in_ok-read.read s.state c.args.id c.args.slot c.args.known.now.items c.args.reads.now.items c.read_ready.new.known.items
    c.read_ready.new.reads.items)
    c.self.view_is
    (one_found c.in_ok-read.read c.self.inside.nodes.items c.self.inside.generation c.self.inside.looked c.self.inside.worn c.args.id c.args.slot
    c.self.inside.marks c.in-Some.computation.now (tree c.in-Some-formula._formula.now) c.args.known.now.items c.read_ready.new.known.items c.args.reads.now.items
    c.read_ready.new.reads.items c.self.invariant.marks c.in-Some.ensures.some c.in-Some-formula.ensures c.in_ok-read.ensures.read)

pub returns-clause-given : goal.returns-clause-given
returns-clause-given c = λ all.
    let xs = c.self.inside.nodes.items in
    let st = state_of xs c.self.inside.generation c.self.inside.looked c.self.inside.worn in
    name_read c.in_ok-read.read (λ n. is_given c.args.self.now n ≡ true) xs c.self.inside.marks.marked c.in-Some.computation.now.recipe c.args.slot
    c.args.known.now.items c.read_ready.new.known.items c.args.reads.now.items c.read_ready.new.reads.items
    (λ m q. below_given c.args.self.now st c.self.inside.seats.holders (length xs) m c.self.view_is
    (c.self.invariant.fields.slots c.args.id m (ap (λ (b : Body). is_in m (slots_body b)) c.in-Some.ensures.some ∙ q)))
    c.in_ok-read.ensures.read all
