use Rattle.std.proofs.Common.{length, sym, ap, ◌∙◌, subst}
use Rattle.sig_nodes.specs.Computations.{GoesOn}
use Rattle.sig_nodes.specs.declared.node.Body.{Body}
use Rattle.sig_nodes.specs.Answers.{IsAnswerHere, IsJudgedAnswer}
use Rattle.sig_nodes.specs.Nodes.{body_at, changed_at, known_body, known_node, slots_body, stands_of}
use Rattle.sig_nodes.proofs.Edits.{body_got, body_written, written}
use Rattle.sig_nodes.proofs.Lives.{asked_live}
use Rattle.sig_nodes.proofs.store.ask_at.Goals as goal

pub node_mut-requires : goal.node_mut-requires
node_mut-requires c = asked_live (body_at c.args.nodes.now.items c.args.id) c.args.known.now c.requires

pub ask-requires : goal.ask-requires
ask-requires c =
    subst (λ (b : Body). GoesOn (known_body b) c.args.known.now) (body_got c.args.nodes.now.items c.args.id c.node_mut.result.now c.node_mut.ensures.value) c.requires

pub returns-in_err-answer-clause-kept : goal.returns-in_err-answer-clause-kept
returns-in_err-answer-clause-kept c =
    let xs = c.args.nodes.now.items in
    let body = body_written xs c.args.id c.node_mut.result.now c.ask.new.node c.node_mut.ensures.value in
    written xs c.args.id c.node_mut.result.now c.ask.new.node (known_node (known_body c.ask.new.node.body)) c.node_mut.ensures.value c.in_err-answer.ensures.kept
    ∙ ap (λ (b : Body). changed_at (known_node (known_body b)) c.args.id xs) (sym body)

pub returns-clause-kept : goal.returns-clause-kept
returns-clause-kept c =
    let xs = c.args.nodes.now.items in
    let body = body_written xs c.args.id c.node_mut.result.now c.ask.new.node c.node_mut.ensures.value in
    written xs c.args.id c.node_mut.result.now c.ask.new.node (known_node (known_body c.ask.new.node.body)) c.node_mut.ensures.value c.in_ok-answer.ensures.kept
    ∙ ap (λ (b : Body). changed_at (known_node (known_body b)) c.args.id xs) (sym body)

pub returns-clause-noted : goal.returns-clause-noted
returns-clause-noted c =
    ap known_body (body_written c.args.nodes.now.items c.args.id c.node_mut.result.now c.ask.new.node c.node_mut.ensures.value) ∙ c.in_ok-answer.ensures.noted

pub returns-clause-answer : goal.returns-clause-answer
returns-clause-answer c =
    subst (λ (b : Body). IsAnswerHere (stands_of c.args.id b) c.args.known.now c.in_ok-answer.answer c.ask.new.outcome)
    (sym (body_got c.args.nodes.now.items c.args.id c.node_mut.result.now c.node_mut.ensures.value))
    (c.in_ok-answer.ensures.answer c.args.id)

pub returns-clause-judged : goal.returns-clause-judged
returns-clause-judged c =
    subst (λ (b : Body). IsJudgedAnswer (length (slots_body b)) c.args.known.now c.in_ok-answer.answer)
    (sym (body_got c.args.nodes.now.items c.args.id c.node_mut.result.now c.node_mut.ensures.value))
    c.in_ok-answer.ensures.judged
