-- The equations of a subtree's tree, and the rows that it brings.
use Rattle.std.proofs.Common.{◌≡◌, ℕ, List, [], ◌∷◌, ◌++◌, refl, sym, ap, ◌∙◌, map, append_assoc, append-nil}
use Rattle.page_tree.specs.declared.sub.Sub.{Sub}
use Rattle.page_tree.specs.declared.sub.Sub.TheVariants.{rolls-Text, rolls-Element}
use Rattle.page_tree.specs.declared.sub.Sub.TheVariants as sub
use Rattle.page_tree.specs.declared.sub.Sub.TheOpen.{Sub-F}
use Rattle.page_tree.specs.declared.sub.Sub.TheFolds.{fold-roll-Sub}
use Rattle.page_model.specs.Forest.{Forest, none, node, after}
use Rattle.page_model.specs.Labels.{Text, Element, Kind}
use Rattle.page_model.specs.Edits.{siblings}
use Rattle.page_tree.specs.Subs.{sub_tree, sub_node, side_by_side, tree_number, rows_of}

pub tree_text : (n : ℕ) (t : _) → sub_tree (sub.Text n t) ≡ node n (Text t) none none
unfolding sub_tree
tree_text n t = ap sub_tree (sym (rolls-Text n t)) ∙ fold-roll-Sub (Forest Kind) sub_node (Sub-F.Text n t)

pub tree_element : (n : ℕ) (name attributes subs : _) → sub_tree (sub.Element n name attributes subs) ≡ node n (Element name attributes.items) (side_by_side (map sub_tree subs.items)) none
unfolding sub_tree
tree_element n name attributes subs = ap sub_tree (sym (rolls-Element n name attributes subs)) ∙ fold-roll-Sub (Forest Kind) sub_node (Sub-F.Element n name attributes subs)

pub number_text : (n : ℕ) (t : _) → n ≡ tree_number (sub_tree (sub.Text n t))
number_text n t = ap tree_number (sym (tree_text n t))

pub number_element : (n : ℕ) (name attributes subs : _) → n ≡ tree_number (sub_tree (sub.Element n name attributes subs))
number_element n name attributes subs = ap tree_number (sym (tree_element n name attributes subs))

rows_after : (above : ℕ) (xs ys : Forest Kind) → rows_of above (after xs ys) ≡ rows_of above xs ++ rows_of above ys
rows_after above none ys = refl
rows_after above (node n x k r) ys = ap (λ zs. (n, record { label = x; parent = above; children = siblings k }) ∷ zs) (ap (λ zs. rows_of n k ++ zs) (rows_after above r ys) ∙ sym (append_assoc (rows_of n k) (rows_of above r) (rows_of above ys)))

-- the rows of subtrees, one after the other
pub rows_cons : (above : ℕ) (t : Forest Kind) (ts : List (Forest Kind)) → rows_of above (side_by_side (t ∷ ts)) ≡ rows_of above t ++ rows_of above (side_by_side ts)
rows_cons above t ts = rows_after above t (side_by_side ts)

siblings_after : (xs ys : Forest Kind) → siblings (after xs ys) ≡ siblings xs ++ siblings ys
siblings_after none ys = refl
siblings_after (node n x k r) ys = ap (λ ns. n ∷ ns) (siblings_after r ys)

-- the numbers of trees side by side, where the first is one node
pub numbers_cons : (n : ℕ) (t : Forest Kind) (ts : List (Forest Kind)) → siblings t ≡ n ∷ [] → siblings (side_by_side (t ∷ ts)) ≡ n ∷ siblings (side_by_side ts)
numbers_cons n t ts e = siblings_after t (side_by_side ts) ∙ (rw e refl)

side_snoc : (ts : List (Forest Kind)) (t : Forest Kind) (above : ℕ) → rows_of above (side_by_side (ts ++ t ∷ [])) ≡ rows_of above (side_by_side ts) ++ rows_of above t
side_snoc [] t above = rows_cons above t [] ∙ append-nil (rows_of above t)
side_snoc (s ∷ ts) t above = rows_cons above s (ts ++ t ∷ []) ∙ (ap (λ zs. rows_of above s ++ zs) (side_snoc ts t above) ∙ (sym (append_assoc (rows_of above s) (rows_of above (side_by_side ts)) (rows_of above t)) ∙ ap (λ zs. zs ++ rows_of above t) (sym (rows_cons above s ts))))

map_snoc : (ss : List Sub) (s : Sub) → map sub_tree (ss ++ s ∷ []) ≡ map sub_tree ss ++ sub_tree s ∷ []
map_snoc [] s = refl
map_snoc (a ∷ ss) s = ap (λ zs. sub_tree a ∷ zs) (map_snoc ss s)

-- the rows of subtrees and of one more
pub rows_snoc : (above : ℕ) (ss : List Sub) (s : Sub) → rows_of above (side_by_side (map sub_tree (ss ++ s ∷ []))) ≡ rows_of above (side_by_side (map sub_tree ss)) ++ rows_of above (sub_tree s)
rows_snoc above ss s = ap (λ ts. rows_of above (side_by_side ts)) (map_snoc ss s) ∙ side_snoc (map sub_tree ss) (sub_tree s) above

-- the rows of one element
pub rows_element : (above n : ℕ) (name attributes subs : _) → rows_of above (sub_tree (sub.Element n name attributes subs)) ≡ (n, record { label = Element name attributes.items; parent = above; children = siblings (side_by_side (map sub_tree subs.items)) }) ∷ rows_of n (side_by_side (map sub_tree subs.items))
rows_element above n name attributes subs = ap (rows_of above) (tree_element n name attributes subs) ∙ ap (λ zs. (n, record { label = Element name attributes.items; parent = above; children = siblings (side_by_side (map sub_tree subs.items)) }) ∷ zs) (append-nil (rows_of n (side_by_side (map sub_tree subs.items))))

pub rows_text : (above n : ℕ) (t : _) → rows_of above (sub_tree (sub.Text n t)) ≡ (n, record { label = Text t; parent = above; children = [] }) ∷ []
rows_text above n t = ap (rows_of above) (tree_text n t)

pub alone_text : (n : ℕ) (t : _) → siblings (sub_tree (sub.Text n t)) ≡ n ∷ []
alone_text n t = ap siblings (tree_text n t)

pub alone_element : (n : ℕ) (name attributes subs : _) → siblings (sub_tree (sub.Element n name attributes subs)) ≡ n ∷ []
alone_element n name attributes subs = ap siblings (tree_element n name attributes subs)

-- rows that are put at the end of none
pub brought_rows : {A B : Type 0} (f : A → B) (xs ys : List A) (zs : List B) → map f xs ≡ map f ys ++ zs → ys ≡ [] → map f xs ≡ zs
brought_rows f xs ys zs e z = e ∙ ap (λ ws. map f ws ++ zs) z
