use Rattle.std.proofs.Common.{◌≡◌, false, true, ap, sym, subst}
use Rattle.std.specs.Prelude.{IfNone, IfSome, slice_get}
use Rattle.signal_model.specs.Memos.{memo_is_cycle, sources_in}
use Rattle.sig_nodes.specs.declared.node.Body.{Body}
use Rattle.sig_nodes.specs.Nodes.{has_moved_body, memo_body}
use Rattle.sig_nodes.proofs.Lives.{keeps_nothing}
use Rattle.sig_nodes.proofs.bodies.compared_at.Goals as goal

pub returns-in-Some-clause-calm : goal.returns-in-Some-clause-calm
returns-in-Some-clause-calm c = subst (λ (b : Body). IfSome c.compared.result (λ m. memo_is_cycle (memo_body b) ≡ false)) (sym c.in-Some.ensures.some) c.compared.ensures.calm

pub returns-in-Some-clause-moved : goal.returns-in-Some-clause-moved
returns-in-Some-clause-moved c =
    subst (λ (b : Body). IfSome c.compared.result (λ m. m ≡ has_moved_body c.args.nodes.now.items (slice_get (sources_in (memo_body b)) c.args.place))) (sym c.in-Some.ensures.some) c.compared.ensures.moved

pub returns-in-Some-clause-cycle : goal.returns-in-Some-clause-cycle
returns-in-Some-clause-cycle c = subst (λ (b : Body). IfNone c.compared.result (memo_is_cycle (memo_body b) ≡ true)) (sym c.in-Some.ensures.some) c.compared.ensures.cycle

pub returns-in-None-clause-calm : goal.returns-in-None-clause-calm
returns-in-None-clause-calm c = ap memo_is_cycle (keeps_nothing c.args.nodes.now.items c.args.id c.in-None.ensures.none)

pub returns-in-None-clause-moved : goal.returns-in-None-clause-moved
returns-in-None-clause-moved c =
    sym (ap (λ m. has_moved_body c.args.nodes.now.items (slice_get (sources_in m) c.args.place)) (keeps_nothing c.args.nodes.now.items c.args.id c.in-None.ensures.none))
