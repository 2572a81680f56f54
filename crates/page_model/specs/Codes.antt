-- How a tree is stored where a value with a model of its own holds it.
use Rattle.std.specs.Prelude.{◌≡◌, ℕ, List, [], ◌∷◌, Option, Some, None, refl}
use Rattle.std.specs.Coded.{Coded, code_by, coded_list, coded_option, coded_ℕ, coded×}
use Rattle.std.proofs.Common.{◌∙◌}
use Rattle.page_model.specs.Forest.{Forest, none, node}
use Rattle.page_model.specs.Labels.{Root, Text, Element, Kind}

-- a label: none for the root, a text, or an element's name with its attributes
abbrev pub Stored : Type 0
Stored = Option (List ℕ × Option (List (List ℕ × List ℕ)))

-- a label as it is stored
abbrev pub stored : Kind → Stored
stored Root = None
stored (Text t) = Some (t, None)
stored (Element name attributes) = Some (name, Some attributes)

-- a text, or an element where there are attributes
abbrev pub label_with : List ℕ → Option (List (List ℕ × List ℕ)) → Kind
label_with t None = Text t
label_with t (Some attributes) = Element t attributes

-- the label that is stored
abbrev pub label_from : Stored → Kind
label_from None = Root
label_from (Some s) = label_with s.0 s.1

-- a stored label is that label
pub label-stored : (x : Kind) → label_from (stored x) ≡ x
label-stored Root = refl
label-stored (Text t) = refl
label-stored (Element name attributes) = refl

-- labels are coded as they are stored
abbrev pub kind_code : Coded Kind
kind_code =
    let bytes = coded_list coded_ℕ in
    code_by Stored (coded_option (coded× bytes (coded_option (coded_list (coded× bytes bytes))))) stored label_from label-stored

-- a tree as a list, before a list: none for an end, and each node behind its children and the siblings after it
abbrev pub spelled : {A : Type 0} → Forest A → List (Option (ℕ × A)) → List (Option (ℕ × A))
spelled none ts = None ∷ ts
spelled (node n x k r) ts = spelled k (spelled r (Some (n, x) ∷ ts))

-- a node over the two trees that were read last
abbrev pub node_over : {A : Type 0} → ℕ → A → List (Forest A) → List (Forest A)
node_over n x [] = []
node_over n x (r ∷ []) = []
node_over n x (r ∷ k ∷ st) = node n x k r ∷ st

-- the tree that was read last
abbrev pub top : {A : Type 0} → List (Forest A) → Forest A
top [] = none
top (f ∷ fs) = f

-- the tree that a list spells, after those that were read before
abbrev pub read : {A : Type 0} → List (Option (ℕ × A)) → List (Forest A) → Forest A
read [] st = top st
read (None ∷ ts) st = read ts (none ∷ st)
read (Some t ∷ ts) st = read ts (node_over t.0 t.1 st)

-- what is spelled is read
pub read-spelled : {A : Type 0} (f : Forest A) (ts : List (Option (ℕ × A))) (st : List (Forest A)) → read (spelled f ts) st ≡ read ts (f ∷ st)
read-spelled none ts st = refl
read-spelled (node n x k r) ts st = read-spelled k (spelled r (Some (n, x) ∷ ts)) st ∙ read-spelled r (Some (n, x) ∷ ts) (k ∷ st)

-- a numbered tree is coded as its nodes, each behind its own
abbrev pub tree_code : Coded (Forest Kind)
tree_code =
    let nodes = coded_list (coded_option (coded× coded_ℕ kind_code)) in
    code_by (List (Option (ℕ × Kind))) nodes (λ f. spelled f []) (λ ts. read ts []) (λ f. read-spelled f [] [])
