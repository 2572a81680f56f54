use Rattle.std.proofs.Common.{◌≡◌, [], ◌∷◌, ◌+◌, ◌++◌, sym, ap, ◌∙◌, drop}
use Rattle.std.proofs.lemmas.List.{drop_more, drop_all}
use Rattle.page_model.specs.Labels.{present, with_value}
use Rattle.page_tree.proofs.Shared.{last_out, step_out}
use Rattle.tpl_patch.proofs.Subtrees.{one_present}
use Rattle.tpl_patch.proofs.arrivals.put_attributes.Goals as goal

pub loop-attribute-preserved : goal.loop-attribute-preserved
loop-attribute-preserved c =
    let i = c.loop-attribute.attribute-index in
    let xs = c.args.attributes.now in
    let x = c.attribute-item.result in
    let rest : drop i xs ≡ x ∷ drop (i + 1) xs = drop_more xs i x c.loop-attribute-test.true ∙ ap (λ z. z ∷ drop (i + 1) xs) (sym c.attribute-item.is) in
    let put = c.in_ok-put_attribute.ensures ∙ ap (λ z. c.loop-attribute.out.items ++ with_value x.0 z []) c.in_ok-value.ensures in
    step_out c.loop-attribute.out.items c.put_attribute.new.out.items (with_value x.0 x.1 []) (present (drop (i + 1) xs)) (present (drop i xs))
    (c.args.out.now.items ++ present xs) put (ap present rest ∙ one_present x.0 x.1 (present (drop (i + 1) xs))) c.loop-attribute.invariant

pub returns : goal.returns
returns c =
    last_out c.loop-attribute.out.items (present (drop c.loop-attribute.attribute-index c.args.attributes.now)) (c.args.out.now.items ++ present c.args.attributes.now)
    (ap present (drop_all c.loop-attribute.attribute-index c.args.attributes.now c.loop-attribute-test.false)) c.loop-attribute.invariant
