use Rattle.std.proofs.Common.{List, Option, Some, length, sym, ap, ◌∙◌, subst}
use Rattle.signal_model.specs.Signals.{standing}
use Rattle.sig_nodes.specs.declared.node.Node.{Node}
use Rattle.sig_nodes.specs.Answers.{slots_here, IsAnswerHere, IsJudgedAnswer}
use Rattle.sig_graph.specs.States.{Seen, progress_at, with_look, with_progress}
use Rattle.sig_graph.specs.Places.{IsGraph}
use Rattle.sig_nodes.specs.Nodes.{body_at, changed_at, known_body, known_node}
use Rattle.sig_graph.specs.Parts.{state_of}
use Rattle.sig_graph.proofs.Parts.{progress_found, stands}
use Rattle.sig_nodes.proofs.Shared.{changed_length}
use Rattle.sig_graph.proofs.StateEdits.{known_state}
use Rattle.sig_graph.proofs.Consistency.{became}
use Rattle.sig_graph.proofs.KeptMarks.{known_graph, under_way}
use Rattle.sig_base.specs.declared.value.Known.{Known}
use Rattle.sig_nodes.specs.Computations.{GoesOn}
use Rattle.sig_graph.proofs.Lookups.{slots_found}
use Rattle.sig_graph.proofs.graph.Graph.recipe.Goals as goal

pub ask_at-requires : goal.ask_at-requires
ask_at-requires c = subst (λ (k : Option (List Known)). GoesOn k c.args.known.now) (progress_found c.self.inside.nodes.items c.args.id) (subst (λ (s : Seen). GoesOn (progress_at c.args.id s.state.progress) c.args.known.now) (sym c.self.view_is) c.requires)

pub invariant_of-self : goal.invariant_of-self
invariant_of-self c =
    let known = subst (λ (k : Option (List Known)). GoesOn k c.args.known.now) (progress_found c.self.inside.nodes.items c.args.id) (subst (λ (s : Seen). GoesOn (progress_at c.args.id s.state.progress) c.args.known.now) (sym c.self.view_is) c.requires) in
    let on = under_way (known_body (body_at c.self.inside.nodes.items c.args.id)) c.args.known.now known in
    subst (λ (xs : List Node). IsGraph xs c.self.inside.seats c.self.inside.generation c.self.inside.worn c.self.inside.marks c.self.inside.finds) (sym c.in_err-answer.ensures.kept)
    (known_graph (known_body (body_at c.ask_at.new.nodes.items c.args.id)) c.args.id c.self.inside.nodes.items c.self.inside.seats c.self.inside.generation c.self.inside.worn c.self.inside.marks c.self.inside.finds on c.self.invariant)

pub invariant_of-self-2 : goal.invariant_of-self-2
invariant_of-self-2 c =
    let known = subst (λ (k : Option (List Known)). GoesOn k c.args.known.now) (progress_found c.self.inside.nodes.items c.args.id) (subst (λ (s : Seen). GoesOn (progress_at c.args.id s.state.progress) c.args.known.now) (sym c.self.view_is) c.requires) in
    let on = under_way (known_body (body_at c.self.inside.nodes.items c.args.id)) c.args.known.now known in
    subst (λ (xs : List Node). IsGraph xs c.self.inside.seats c.self.inside.generation c.self.inside.worn c.self.inside.marks c.self.inside.finds) (sym c.in_ok-answer.ensures.kept)
    (known_graph (known_body (body_at c.ask_at.new.nodes.items c.args.id)) c.args.id c.self.inside.nodes.items c.self.inside.seats c.self.inside.generation c.self.inside.worn c.self.inside.marks c.self.inside.finds on c.self.invariant)

pub returns-clause-answer : goal.returns-clause-answer
returns-clause-answer c =
    let xs = c.self.inside.nodes.items in
    let here = sym (stands xs c.args.id) ∙ ap (λ (s : Seen). standing s.state.signals c.args.id) c.self.view_is in
    subst (λ z. IsAnswerHere z c.args.known.now c.in_ok-answer.answer c.ask_at.new.outcome) here c.in_ok-answer.ensures.answer

pub returns-clause-judged : goal.returns-clause-judged
returns-clause-judged c =
    let xs = c.self.inside.nodes.items in
    let slots = sym (slots_found xs c.args.id) ∙ ap (λ (s : Seen). slots_here (standing s.state.signals c.args.id)) c.self.view_is in
    subst (λ ns. IsJudgedAnswer (length ns) c.args.known.now c.in_ok-answer.answer) slots c.in_ok-answer.ensures.judged

pub returns-clause-after : goal.returns-clause-after
returns-clause-after c =
    let xs = c.self.inside.nodes.items in
    let ys = c.ask_at.new.nodes.items in
    let g = c.self.inside.generation in
    let l = c.self.inside.looked in
    let w = c.self.inside.worn in
    let n = c.count.new.looked in
    let known = Some c.args.known.now in
    let nodes = c.in_ok-answer.ensures.kept ∙ ap (λ (k : Option (List Known)). changed_at (known_node k) c.args.id c.self.inside.nodes.items) c.in_ok-answer.ensures.noted in
    let len = ap length nodes ∙ changed_length (known_node known) c.args.id xs in
    became c.args.self.now (state_of xs g l w) (state_of ys g n w) (with_look (with_progress c.args.self.now.state c.args.id known)) c.self.inside.seats.holders c.self.inside.seats.holders (length xs) (length ys) c.self.view_is len
    (ap (λ zs. state_of zs g n w) nodes ∙ known_state xs c.args.id known g n w ∙ ap (λ m. with_progress (state_of xs g m w) c.args.id known) c.count.ensures
    ∙ ap (λ (s : Seen). with_look (with_progress s.state c.args.id known)) c.self.view_is)

pub returns-clause-seats : goal.returns-clause-seats
returns-clause-seats c = ap (λ (s : Seen). s.seats) c.self.view_is
