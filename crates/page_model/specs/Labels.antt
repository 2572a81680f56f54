-- What the nodes of pages and of shapes are.
use Rattle.std.specs.Prelude.{ℕ, Bool, true, false, ◌||◌, not, List, [], ◌∷◌, ◌≡◌, Option, Some, None, ◌<◌}
use Rattle.std.specs.Str.{bytes_eq}
use Rattle.html_out.specs.Html.{good_name, is_void}
use Rattle.page_model.specs.Forest.{Forest, none, node, count}

-- the root, a text, or an element with its name and its attributes in order, each a name and V
pub data Label (V : Type 0) : Type 0 where
  Root : Label V
  Text : (text : List ℕ) → Label V
  Element : (name : List ℕ) (attributes : List (List ℕ × V)) → Label V

-- a node of a page: its attributes have values
abbrev pub Kind : Type 0
Kind = Label (List ℕ)

-- a node of a shape: one attribute for each line of the template, with a value where it is present
abbrev pub Look : Type 0
Look = Label (Option (List ℕ))

-- a present attribute before others
abbrev pub with_value : List ℕ → Option (List ℕ) → List (List ℕ × List ℕ) → List (List ℕ × List ℕ)
with_value name None rest = rest
with_value name (Some v) rest = (name, v) ∷ rest

-- the attributes that are present
abbrev pub present : List (List ℕ × Option (List ℕ)) → List (List ℕ × List ℕ)
present [] = []
present (a ∷ rest) = with_value a.0 a.1 (present rest)

-- a node of a shape as it stands on a page
abbrev pub seen : Look → Kind
seen Root = Root
seen (Text t) = Text t
seen (Element name lines) = Element name (present lines)

-- a shape as it stands on a page
abbrev pub shown : Forest Look → Forest Kind
shown none = none
shown (node m x k r) = node m (seen x) (shown k) (shown r)

-- the root and the elements with an end tag can hold children
abbrev pub holds : {V : Type 0} → Label V → Bool
holds Root = true
holds (Text t) = false
holds (Element name attributes) = not (is_void name)

-- an attribute of that name is among them
abbrev pub named : {V : Type 0} → List ℕ → List (List ℕ × V) → Bool
named name [] = false
named name (a ∷ rest) = bytes_eq a.0 name || named name rest

-- no two have one name
abbrev pub Distinct : {V : Type 0} → List (List ℕ × V) → Type 0
Distinct [] = Unit {0}
Distinct (a ∷ rest) = (named a.0 rest ≡ false) × Distinct rest

-- the attribute names of one node are distinct
abbrev pub DistinctNames : {V : Type 0} → Label V → Type 0
DistinctNames Root = Unit {0}
DistinctNames (Text t) = Unit {0}
DistinctNames (Element name attributes) = Distinct attributes

-- the same names in the same order
abbrev pub SameNames : {V : Type 0} → List (List ℕ × V) → List (List ℕ × V) → Type 0
SameNames [] [] = Unit {0}
SameNames [] (b ∷ bs) = ⊥
SameNames (a ∷ xs) [] = ⊥
SameNames (a ∷ xs) (b ∷ bs) = (a.0 ≡ b.0) × SameNames xs bs

-- two nodes that one line of a template can give: they differ in texts and in values of attributes
abbrev pub Alike : {V : Type 0} → Label V → Label V → Type 0
Alike Root Root = Unit {0}
Alike (Text s) (Text t) = Unit {0}
Alike (Element m xs) (Element n bs) = (m ≡ n) × SameNames xs bs
Alike x y = ⊥

-- each node with children can hold them, and the attribute names of each element are distinct
abbrev pub Sound : {V : Type 0} → Forest (Label V) → Type 0
Sound none = Unit {0}
Sound (node m x k r) = (0 < count k → holds x ≡ true) × DistinctNames x × Sound k × Sound r

-- attributes under names of HTML
abbrev pub GoodNames : {V : Type 0} → List (List ℕ × V) → Type 0
GoodNames [] = Unit {0}
GoodNames (a ∷ rest) = (good_name a.0 ≡ true) × GoodNames rest

-- a text, or an element under a name of HTML, and so are its attributes
abbrev pub GoodLabel : {V : Type 0} → Label V → Type 0
GoodLabel Root = ⊥
GoodLabel (Text t) = Unit {0}
GoodLabel (Element name attributes) = (good_name name ≡ true) × GoodNames attributes

-- texts, and elements and attributes under names of HTML
abbrev pub WellNamed : {V : Type 0} → Forest (Label V) → Type 0
WellNamed none = Unit {0}
WellNamed (node m x k r) = GoodLabel x × WellNamed k × WellNamed r
