-- How a subtree is written.
use Rattle.std.proofs.Common.{◌≡◌, ℕ, refl, sym, ap, subst, ◌∙◌, List, [], ◌∷◌, ◌++◌, map, append_assoc}
use Rattle.std.specs.Fmt.{decimal}
use Rattle.sig_base.specs.Printer.{quoted}
use Rattle.page_model.specs.Forest.{Forest, none, node, after}
use Rattle.page_model.specs.Labels.{Kind}
use Rattle.page_model.specs.Texts.{AreSized, op_text, written_attributes, written_label, written_nodes}
use Rattle.page_model.specs.Edits.{siblings}
use Rattle.std.specs.Prelude.{codes}
use Rattle.page_tree.specs.declared.sub.Sub.TheVariants as sub
use Rattle.page_tree.specs.Subs.{insertion, side_by_side, sub_tree}
use Rattle.page_tree.proofs.Shared.{one_node, tree_text, tree_element}
use Rattle.page_ops.specs.Ops.{opened}

written_after : (xs ys : Forest Kind) → written_nodes (after xs ys) ≡ written_nodes xs ++ written_nodes ys
written_after none ys = refl
written_after (node n x k r) ys =
    ap (λ zs. 32 ∷ 40 ∷ (decimal n ++ (written_label x ++ (written_nodes k ++ 41 ∷ zs)))) (written_after r ys)
    ∙ sym (ap (λ zs. 32 ∷ 40 ∷ zs) (
    append_assoc (decimal n) (written_label x ++ (written_nodes k ++ 41 ∷ written_nodes r)) (written_nodes ys)
    ∙ ap (λ zs. decimal n ++ zs) (append_assoc (written_label x) (written_nodes k ++ 41 ∷ written_nodes r) (written_nodes ys)
    ∙ ap (λ zs. written_label x ++ zs) (append_assoc (written_nodes k) (41 ∷ written_nodes r) (written_nodes ys)))))

pub written_cons : (t : Forest Kind) (ts : List (Forest Kind)) → written_nodes (side_by_side (t ∷ ts)) ≡ written_nodes t ++ written_nodes (side_by_side ts)
written_cons t ts = written_after t (side_by_side ts)

pub written_text : (n : ℕ) (t : _) → written_nodes (sub_tree (sub.Text n t)) ≡ 32 ∷ 40 ∷ (decimal n ++ (32 ∷ (quoted t ++ 41 ∷ [])))
written_text n t = ap written_nodes (tree_text n t)

pub written_element : (n : ℕ) (name attributes subs : _) → written_nodes (sub_tree (sub.Element n name attributes subs)) ≡ 32 ∷ 40 ∷ (decimal n ++ ((32 ∷ (name ++ written_attributes attributes.items)) ++ (written_nodes (side_by_side (map sub_tree subs.items)) ++ 41 ∷ [])))
written_element n name attributes subs = ap written_nodes (tree_element n name attributes subs)

-- an element is its beginning, its children and its end
pub element_parts : (n : ℕ) (name attributes subs : _) → opened n name attributes.items ++ (written_nodes (side_by_side (map sub_tree subs.items)) ++ 41 ∷ []) ≡ written_nodes (sub_tree (sub.Element n name attributes subs))
element_parts n name attributes subs =
    ap (λ zs. 32 ∷ 40 ∷ zs) (append_assoc (decimal n) (32 ∷ (name ++ written_attributes attributes.items)) (written_nodes (side_by_side (map sub_tree subs.items)) ++ 41 ∷ []))
    ∙ sym (written_element n name attributes subs)

pub closed : (old begun filled done o a z : List ℕ) → begun ≡ old ++ o → filled ≡ begun ++ a → done ≡ filled ++ z → done ≡ old ++ (o ++ (a ++ z))
closed old begun filled done o a z e f g =
    g ∙ (ap (λ zs. zs ++ z) (f ∙ ap (λ zs. zs ++ a) e)
    ∙ (append_assoc (old ++ o) a z ∙ append_assoc old o (a ++ z)))

pub insertion_text : (p i n : ℕ) (s : Forest Kind) → siblings s ≡ n ∷ [] → codes "insert " ++ (decimal p ++ 32 ∷ (decimal i ++ written_nodes s)) ≡ op_text (insertion p i s)
insertion_text p i n s one =
    let w = one_node n s one in
    let P : Forest Kind → Type 0 = λ z. codes "insert " ++ (decimal p ++ 32 ∷ (decimal i ++ written_nodes z)) ≡ op_text (insertion p i z) in
    subst P (sym w.2) refl

-- numbers and texts of trees side by side
pub sized_after : (xs ys : Forest Kind) → AreSized xs → AreSized ys → AreSized (after xs ys)
sized_after none ys a b = b
sized_after (node n x k r) ys a b = (a.0, a.1, a.2, sized_after r ys a.3 b)
