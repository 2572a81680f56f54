use Rattle.std.proofs.Common.{◌≡◌, ◌+◌, ◌++◌, ℕ, List, [], ◌∷◌, sym, ap, ◌∙◌, drop, map, append_assoc}
use Rattle.std.proofs.lemmas.List.{drop_more, drop_all}
use Rattle.page_model.specs.Edits.{siblings}
use Rattle.page_model.specs.Labels.{Kind, Text, Element}
use Rattle.page_tree.specs.declared.sub.Sub.{Sub}
use Rattle.page_tree.specs.Rows.{Row, numbered_row}
use Rattle.page_tree.specs.Subs.{rows_of, side_by_side, sub_tree}
use Rattle.page_tree.proofs.Subtrees.{rows_text, rows_cons, rows_element}
use Rattle.page_tree.proofs.Lists.{step_out, last_out}
use Rattle.page_tree.proofs.sub.+put_rows.Goals as goal

pub returns-in_ok-put_row-in-Text : goal.returns-in_ok-put_row-in-Text
returns-in_ok-put_row-in-Text t c =
    let p = c.args.parent in
    let n = c.in-Text.number in
    let row : List ℕ → List ℕ → List (ℕ × Row) = λ text ns. (n, record { label = Text text; parent = p; children = ns }) ∷ [] in
    c.in_ok-put_row-in-Text.ensures
    ∙ ap (λ zs. map numbered_row c.args.rows.now.items ++ zs)
    ((λ i. row ((c.new.ensures ∙ c.in_ok-copy-in-Text.ensures) i) (c.new-in-Text.ensures.items i))
    ∙ sym (ap (λ s. rows_of p (sub_tree s)) c.in-Text.is ∙ rows_text p n c.in-Text.text))

pub loop-sub-preserved : goal.loop-sub-preserved
loop-sub-preserved t c =
    let n = c.in-Element.number in
    let i = c.loop-sub.sub-index in
    let items = c.deref-sub-items.result.now in
    let s = c.sub-item.result in
    let brought : List Sub → List (ℕ × Row) = λ ss. rows_of n (side_by_side (map sub_tree ss)) in
    let rest = drop (i + 1) items in
    let e : drop i items ≡ s ∷ rest = drop_more items i s c.loop-sub-test.true ∙ ap (λ z. z ∷ rest) (sym c.sub-item.is) in
    let f : brought (drop i items) ≡ rows_of n (sub_tree s) ++ brought rest = ap brought e ∙ rows_cons n (sub_tree s) (map sub_tree rest) in
    step_out (map numbered_row c.loop-sub.rows.items) (map numbered_row c.put_rows.new.rows.items) (rows_of n (sub_tree s)) (brought rest) (brought (drop i items))
    (map numbered_row c.put_row-in-Element.new.rows.items ++ brought items) c.in_ok-put_rows-in-Element.ensures f c.loop-sub.invariant

pub returns-after-loop-sub : goal.returns-after-loop-sub
returns-after-loop-sub t c =
    let p = c.args.parent in
    let n = c.in-Element.number in
    let subs = c.in-Element.subs in
    let items = c.deref-sub-items.result.now in
    let old = map numbered_row c.args.rows.now.items in
    let brought : List Sub → List (ℕ × Row) = λ ss. rows_of n (side_by_side (map sub_tree ss)) in
    let row : Kind → List ℕ → List (ℕ × Row) = λ x ns. (n, record { label = x; parent = p; children = ns }) ∷ [] in
    let kind = Element c.in-Element.name c.in-Element.attributes.items in
    let done : drop c.loop-sub.sub-index items ≡ [] = drop_all c.loop-sub.sub-index items c.loop-sub-test.false in
    let all : map numbered_row c.loop-sub.rows.items ≡ map numbered_row c.put_row-in-Element.new.rows.items ++ brought items =
    last_out (map numbered_row c.loop-sub.rows.items) (brought (drop c.loop-sub.sub-index items)) _ (ap brought done) c.loop-sub.invariant in
    let children : c.in_ok-children-in-Element.children.items ≡ siblings (side_by_side (map sub_tree subs.items)) =
    c.in_ok-children-in-Element.ensures ∙ ap (λ ss. siblings (side_by_side (map sub_tree ss))) c.deref-in-Element.ensures.value in
    let first = c.in_ok-put_row-in-Element.ensures
    ∙ ap (λ zs. old ++ zs) (λ i. row ((c.in_ok-label-in-Element.ensures ∙ ap (Element c.in-Element.name) c.deref.ensures.value) i) (children i)) in
    all
    ∙ (ap (λ ss. map numbered_row c.put_row-in-Element.new.rows.items ++ brought ss) c.deref-sub-items.ensures.value
    ∙ (ap (λ zs. zs ++ brought subs.items) first
    ∙ (append_assoc old (row kind (siblings (side_by_side (map sub_tree subs.items)))) (brought subs.items)
    ∙ ap (λ zs. old ++ zs) (sym (ap (λ s. rows_of p (sub_tree s)) c.in-Element.is ∙ rows_element p n c.in-Element.name c.in-Element.attributes subs)))))
