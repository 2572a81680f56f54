-- Nodes that are added one after the other.
use Rattle.std.proofs.Common.{◌≡◌, ℕ, suc, ◌+◌, refl, sym, ap, ◌∙◌, arith, List, [], ◌∷◌, ◌++◌, map, length, length-append, Option}
use Rattle.page_model.proofs.Shared.{after_none, after_assoc}
use Rattle.page_model.specs.Forest.{Forest, none, node, after, keys}
use Rattle.page_model.specs.Labels.{Text, Element, Kind, Look, present, seen, shown}
use Rattle.page_tree.specs.declared.sub.Sub.{Sub}
use Rattle.page_tree.specs.Subs.{side_by_side, sub_tree}
use Rattle.tpl_model.specs.Sources.{in_order}
use Rattle.tpl_scratch.specs.Pages.{Numbered, with_nodes}

shown_after : (x y : Forest Look) → shown (after x y) ≡ after (shown x) (shown y)
shown_after none y = refl
shown_after (node m l k r) y = ap (λ t. node m (seen l) (shown k) t) (shown_after r y)

keys_after : (x y : Forest Look) → length (keys (after x y)) ≡ length (keys x) + length (keys y)
keys_after none y = omega arith
keys_after (node m l k r) y =
    let i = keys_after r y in
    let j = length-append (keys k) (keys (after r y)) in
    let h = length-append (keys k) (keys r) in
    omega (arith, i, j, h)

order_after : (n : ℕ) (x y : Forest Look) → in_order n (after x y) ≡ after (in_order n x) (in_order (n + length (keys x)) y)
order_after n none y = (let e : n ≡ n + 0 = omega arith in ap (λ i. in_order i y) e)
order_after n (node m l k r) y =
    let h = length-append (keys k) (keys r) in
    let e : (suc n + length (keys k)) + length (keys r) ≡ n + length (keys (node m l k r)) = omega (arith, h) in
    ap (λ t. node n l (in_order (suc n) k) t)
    (order_after (suc n + length (keys k)) r y ∙ ap (λ i. after (in_order (suc n + length (keys k)) r) (in_order i y)) e)

-- nodes and the next number
abbrev pub made : Forest Kind → ℕ → Numbered
made nodes next = record { nodes = nodes; next = next }

-- they are the same where their parts are
same_numbered : (m n : Forest Kind) (i j : ℕ) → m ≡ n → i ≡ j → made m i ≡ made n j
same_numbered m n i j e f = (λ k. made (e k) (f k))

-- no nodes leave all as it is
pub with_none : (n : Numbered) → with_nodes n none ≡ n
with_none n = same_numbered (after n.nodes none) n.nodes (n.next + 0) n.next (after_none n.nodes) (omega arith)

-- nodes behind nodes
pub with_after : (n : Numbered) (f g : Forest Look) → with_nodes (with_nodes n f) g ≡ with_nodes n (after f g)
with_after n f g =
    let m = n.next + length (keys f) in
    let e = after_assoc n.nodes (shown (in_order n.next f)) (shown (in_order m g)) in
    let h = ap shown (order_after n.next f g) ∙ shown_after (in_order n.next f) (in_order m g) in
    let k = keys_after f g in
    same_numbered (after (after n.nodes (shown (in_order n.next f))) (shown (in_order m g))) (after n.nodes (shown (in_order n.next (after f g))))
    (m + length (keys g)) (n.next + length (keys (after f g)))
    (e ∙ ap (λ t. after n.nodes t) (sym h)) (omega (arith, k))

-- an element behind nodes, whose children have the next numbers
pub with_element : (n : Numbered) (a : ℕ) (name : List ℕ) (xs : List (List ℕ × Option (List ℕ))) (k : Forest Look) (values : List (List ℕ × List ℕ)) (children : Numbered) →
    values ≡ present xs → children ≡ with_nodes (record { nodes = none; next = n.next + 1 }) k →
    made (after n.nodes (node n.next (Element name values) children.nodes none)) children.next ≡ with_nodes n (node a (Element name xs) k none)
with_element n a name xs k values children e f =
    let g : n.next + 1 ≡ suc n.next = omega arith in
    let h : children.nodes ≡ shown (in_order (suc n.next) k) = ap (λ (x : Numbered). x.nodes) f ∙ ap (λ i. shown (in_order i k)) g in
    let j : children.next ≡ (n.next + 1) + length (keys k) = ap (λ (x : Numbered). x.next) f in
    let l = length-append (keys k) [] in
    same_numbered (after n.nodes (node n.next (Element name values) children.nodes none))
    (after n.nodes (node n.next (Element name (present xs)) (shown (in_order (suc n.next) k)) none))
    children.next (n.next + length (keys (node a (Element name xs) k none)))
    (ap (λ v. after n.nodes (node n.next (Element name v) children.nodes none)) e ∙ ap (λ t. after n.nodes (node n.next (Element name (present xs)) t none)) h)
    (omega (arith, j, l))

-- one more subtree
pub side_more : (subs : List Sub) (s : Sub) → side_by_side (map sub_tree (subs ++ s ∷ [])) ≡ after (side_by_side (map sub_tree subs)) (sub_tree s)
side_more [] s = after_none (sub_tree s)
side_more (x ∷ xs) s =
    ap (λ t. after (sub_tree x) t) (side_more xs s) ∙ sym (after_assoc (sub_tree x) (side_by_side (map sub_tree xs)) (sub_tree s))

-- more subtrees
pub side_append : (subs more : List Sub) → side_by_side (map sub_tree (subs ++ more)) ≡ after (side_by_side (map sub_tree subs)) (side_by_side (map sub_tree more))
side_append [] more = refl
side_append (x ∷ xs) more =
    ap (λ t. after (sub_tree x) t) (side_append xs more) ∙ sym (after_assoc (sub_tree x) (side_by_side (map sub_tree xs)) (side_by_side (map sub_tree more)))

-- a subtree is appended
pub pushed : (subs now : List Sub) (s : Sub) (t : Forest Kind) (next : ℕ) → now ≡ subs ++ s ∷ [] → sub_tree s ≡ t →
    made (side_by_side (map sub_tree now)) next ≡ made (after (side_by_side (map sub_tree subs)) t) next
pushed subs now s t next e f =
    ap (λ x. made (side_by_side (map sub_tree x)) next) e ∙ ap (λ x. made x next) (side_more subs s ∙ ap (λ x. after (side_by_side (map sub_tree subs)) x) f)

-- a text is appended under the next number
pub text_put : (n now : Numbered) (t : List ℕ) (s : Forest Kind) (next : ℕ) → now ≡ made (after n.nodes s) next → s ≡ node n.next (Text t) none none → next ≡ n.next + 1 →
    now ≡ with_nodes n (node 0 (Text t) none none)
text_put n now t s next e f g = e ∙ ap (λ x. made (after n.nodes x) next) f ∙ ap (made (after n.nodes (node n.next (Text t) none none))) g
