use Rattle.std.proofs.Common.{◌≡◌, ap, sym, subst}
use Rattle.std.specs.Prelude.{IfOk}
use Rattle.sig_nodes.specs.declared.node.Body.{Body}
use Rattle.sig_nodes.specs.Nodes.{shown_body}
use Rattle.sig_nodes.proofs.bodies.shown_at.Goals as goal

pub returns-in-Some : goal.returns-in-Some
returns-in-Some c = subst (λ (b : Body). IfOk c.shown.result (λ o. o ≡ shown_body b)) c.in-Some.ensures.some c.shown.ensures

pub returns-in-None : goal.returns-in-None
returns-in-None c = sym (ap shown_body c.in-None.ensures.none)
