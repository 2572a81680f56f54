use Rattle.std.proofs.Common.{◌≡◌, Some, IfSome, IfNone, ap, ◌∙◌, subst}
use Rattle.std.specs.Prelude.{slice_get}
use Rattle.sig_store.specs.Stored.{entry}
use Rattle.sig_nodes.specs.declared.node.Body.TheVariants as body
use Rattle.sig_nodes.specs.Gaps.{NodeTable}
use Rattle.sig_nodes.specs.Nodes.{body_at, seat_at}
use Rattle.sig_nodes.proofs.Gaps.{found_nobody, found_standing, found_unseated}
use Rattle.sig_nodes.proofs.nodes.Nodes.at.Goals as goal

pub returns-clause-some : goal.returns-clause-some
returns-clause-some c =
    let es = c.self.inside.store.entries in
    subst (λ (t : NodeTable). IfSome c.get.result (λ x. slice_get t.items c.args.id ≡ Some x.now)) c.self.view_is
    (found_standing es c.args.id c.get.result (c.get.ensures ∙ ap (entry es) c.number.ensures))

pub returns-clause-gone : goal.returns-clause-gone
returns-clause-gone c =
    let es = c.self.inside.store.entries in
    subst (λ (t : NodeTable). IfNone c.get.result (body_at t.items c.args.id ≡ body.Gone)) c.self.view_is
    (found_nobody es c.args.id c.get.result (c.get.ensures ∙ ap (entry es) c.number.ensures))

pub returns-clause-seat : goal.returns-clause-seat
returns-clause-seat c =
    let es = c.self.inside.store.entries in
    subst (λ (t : NodeTable). IfNone c.get.result (seat_at t.items c.args.id ≡ 0)) c.self.view_is
    (found_unseated es c.args.id c.get.result (c.get.ensures ∙ ap (entry es) c.number.ensures))
