use Rattle.std.proofs.Common.{◌∙◌, Bool, Option, None, Some, cond, map, sym, ap}
use Rattle.live_entries.specs.declared.refusal.Refusal.TheVariants as refusal
use Rattle.live_model.specs.Handlers.{has_node}
use Rattle.live_model.specs.Machine.{page_at}
use Rattle.live_model.specs.Pages.{Page}
use Rattle.live_pages.specs.Views.{page_of}
use Rattle.live_items.proofs.refusals.node_refusal.Goals as goal

pub returns-in_default : goal.returns-in_default
returns-in_default c =
    let n = c.args.node in
    let number = c.of-number.ensures ∙ c.number_of.ensures in
    ap (λ (o : Option Page). cond (has_node o n) None (Some (refusal.NoNode n))) (sym c.in_default.ensures.found)
    ∙ (λ i. cond (has_node (page_at (map page_of (c.deref.ensures.value i)) (number i)) n) None (Some (refusal.NoNode n)))

pub returns-then-has_node : goal.returns-then-has_node
returns-then-has_node c =
    let n = c.args.node in
    let number = c.of-number.ensures ∙ c.number_of.ensures in
    ap (λ (b : Bool). cond b None (Some (refusal.NoNode n))) (sym c.if-has_node.true ∙ c.has_node.ensures)
    ∙ ap (λ (o : Option Page). cond (has_node o n) None (Some (refusal.NoNode n))) (sym c.in-Some.ensures.found)
    ∙ (λ i. cond (has_node (page_at (map page_of (c.deref.ensures.value i)) (number i)) n) None (Some (refusal.NoNode n)))

pub returns : goal.returns
returns c =
    let n = c.args.node in
    let number = c.of-number.ensures ∙ c.number_of.ensures in
    ap (λ (b : Bool). cond b None (Some (refusal.NoNode n))) (sym c.if-has_node.false ∙ c.has_node.ensures)
    ∙ ap (λ (o : Option Page). cond (has_node o n) None (Some (refusal.NoNode n))) (sym c.in-Some.ensures.found)
    ∙ (λ i. cond (has_node (page_at (map page_of (c.deref.ensures.value i)) (number i)) n) None (Some (refusal.NoNode n)))
