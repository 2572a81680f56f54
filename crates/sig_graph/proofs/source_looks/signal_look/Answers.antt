use Rattle.std.proofs.Common.{◌&&◌, not, is_some, sym, ap, ◌∙◌}
use Rattle.sig_nodes.specs.declared.node.Body.{Body}
use Rattle.sig_nodes.specs.Nodes.{body_at, is_computed_body, known_body}
use Rattle.sig_nodes.proofs.Shared.{body_got}
use Rattle.sig_graph.proofs.KeptLooks.{idle_parts}
use Rattle.sig_graph.proofs.source_looks.signal_look.Goals as goal

pub returns-in_default : goal.returns-in_default
returns-in_default c = ap (λ (b : Body). is_computed_body b && not (is_some (known_body b))) c.in_default.ensures.gone

pub returns-then-not-is_idle : goal.returns-then-not-is_idle
returns-then-not-is_idle c =
    ap (λ (b : Body). is_computed_body b && not (is_some (known_body b))) (body_got c.args.nodes.now.items c.args.id c.in-Some.node.now c.in-Some.ensures.some)
    ∙ sym c.is_idle.ensures ∙ c.if-not-is_idle.true

pub node_told-told-requires-clause-can : goal.node_told-told-requires-clause-can
node_told-told-requires-clause-can c =
    let node = c.in-Some.node.now in
    let body = body_got c.args.nodes.now.items c.args.id node c.in-Some.ensures.some in
    record {
      live = ap is_computed_body body ∙ (idle_parts (is_computed_body node.body) (is_some (known_body node.body)) (sym c.is_idle.ensures ∙ c.if-not-is_idle.false)).0;
      marks = c.requires.marks;
      seats = c.requires.seats;
      kept = c.requires.kept;
    }

pub returns : goal.returns
returns c = (
  ap (λ (b : Body). is_computed_body b && not (is_some (known_body b))) (body_got c.args.nodes.now.items c.args.id c.in-Some.node.now c.in-Some.ensures.some)
      ∙ sym c.is_idle.ensures ∙ c.if-not-is_idle.false,
  c.node_told-told.ensures.clean,
)
