use Rattle.std.proofs.Common.{◌≡◌, ◌+◌, ◌<◌, ◌∷◌, List, ap, drop, false, get_or, length, refl, subst, sym, ◌∙◌, ℕ}
use Rattle.std.proofs.lemmas.List.{drop_more, drop_all}
use Rattle.std.specs.Option.{option_copied}
use Rattle.sig_formula.specs.Trees.{tree}
use Rattle.sig_formula.specs.declared.formula.Formula.{Formula}
use Rattle.tpl_model.specs.Shapes.{row_here}
use Rattle.tpl_scratch.specs.Pages.{attributes_in}
use Rattle.tpl_scratch.proofs.Parts.{AreLeft, attribute_stops, attributes_left, fewer_left, handed_on, left_at_fault, none_left}
use Rattle.tpl_scratch.proofs.show.attributes_here.Goals as goal

-- an attribute, and those after it
item_on : (xs : List (List ℕ × Formula)) (i : ℕ) (x : List ℕ × Formula) → i < length xs → x ≡ get_or xs i x → drop i xs ≡ x ∷ drop (i + 1) xs
item_on xs i x h e = drop_more xs i x h ∙ ap (λ y. y ∷ drop (i + 1) xs) (sym e)

pub loop-attribute-init : goal.loop-attribute-init
loop-attribute-init c =
    let row = row_here (option_copied c.args.here) in
    let all = attributes_in c.args.attributes.now in
    subst (λ z. AreLeft c.args.known.now c.args.ends row all all z false) (sym c.new-values.ensures.items) (attributes_left c.args.known.now c.args.ends row all)

pub loop-attribute-preserved : goal.loop-attribute-preserved
loop-attribute-preserved c =
    let row = row_here (option_copied c.args.here) in
    let xs = c.args.attributes.now in
    let i = c.loop-attribute.attribute-index in
    let x = c.attribute-item.result in
    let e = item_on xs i x c.loop-attribute-test.true c.attribute-item.is in
    let left = subst (λ r. AreLeft c.args.known.now c.args.ends row (attributes_in xs) (attributes_in r) c.loop-attribute.values.items c.loop-attribute.failed) e c.loop-attribute.invariant in
    subst (AreLeft c.args.known.now c.args.ends row (attributes_in xs) (attributes_in (drop (i + 1) xs)) c.put_evaluated.new.out.items) (sym c.either_failed-failed.ensures)
    (fewer_left c.args.known.now c.args.ends row (attributes_in xs) x.0 (tree x.1) (attributes_in (drop (i + 1) xs)) c.loop-attribute.values.items
    c.put_evaluated.new.out.items c.loop-attribute.failed c.in_ok-fault.fault left c.in_ok-fault.ensures.put (sym c.is_over.ensures ∙ c.if-is_over.false))

pub returns-then-is_over-clause-found : goal.returns-then-is_over-clause-found
returns-then-is_over-clause-found c =
    let row = row_here (option_copied c.args.here) in
    let xs = c.args.attributes.now in
    let i = c.loop-attribute.attribute-index in
    let x = c.attribute-item.result in
    let e = item_on xs i x c.loop-attribute-test.true c.attribute-item.is in
    let left = subst (λ r. AreLeft c.args.known.now c.args.ends row (attributes_in xs) (attributes_in r) c.loop-attribute.values.items c.loop-attribute.failed) e c.loop-attribute.invariant in
    left_at_fault c.args.known.now c.args.ends row (attributes_in xs) x.0 (tree x.1) (attributes_in (drop (i + 1) xs)) c.loop-attribute.values.items
    c.put_evaluated.new.out.items c.loop-attribute.failed c.in_ok-fault.fault _ left c.in_ok-fault.ensures.put (sym c.is_over.ensures ∙ c.if-is_over.true) refl

pub returns-clause-found : goal.returns-clause-found
returns-clause-found c =
    let row = row_here (option_copied c.args.here) in
    let xs = c.args.attributes.now in
    none_left c.args.known.now c.args.ends row (attributes_in xs) _
    (subst (λ r. AreLeft c.args.known.now c.args.ends row (attributes_in xs) (attributes_in r) c.loop-attribute.values.items c.loop-attribute.failed)
    (drop_all c.loop-attribute.attribute-index xs c.loop-attribute-test.false) c.loop-attribute.invariant)

pub returns-in_err-fault-clause-stops : goal.returns-in_err-fault-clause-stops
returns-in_err-fault-clause-stops c =
    let row = row_here (option_copied c.args.here) in
    let xs = c.args.attributes.now in
    let i = c.loop-attribute.attribute-index in
    let x = c.attribute-item.result in
    let e = item_on xs i x c.loop-attribute-test.true c.attribute-item.is in
    let left = subst (λ r. AreLeft c.args.known.now c.args.ends row (attributes_in xs) (attributes_in r) c.loop-attribute.values.items c.loop-attribute.failed) e c.loop-attribute.invariant in
    handed_on c.args.known.now _ c.from_residual.result c.in_err-fault.field-0.0 c.from_residual.ensures.1
    (attribute_stops c.args.known.now c.args.ends row (attributes_in xs) x.0 (tree x.1) (attributes_in (drop (i + 1) xs)) c.loop-attribute.values.items
    c.loop-attribute.failed c.in_err-fault.field-0.0 left c.in_err-fault.ensures.stops)
