-- Which number each address has on a page.
use Rattle.std.specs.Prelude.{◌≡◌, ℕ, ◌+◌, Option, Some, None, List, [], ◌∷◌, ◌++◌, if◌then◌else◌}
use Rattle.std.specs.List.{flat_map}
use Rattle.indexmap.specs.IndexMap.{IndexMap, get}
use Rattle.page_model.specs.Forest.{Forest, keys, label_in, on}
use Rattle.page_model.specs.Labels.{Root, Kind, Look}
use Rattle.tpl_model.specs.ShownNodes.Addresses.{address_of, same_address}
use Rattle.tpl_model.specs.ShownNodes.Shapes.{Marked, Next, comes, stays}
use Rattle.tpl_model.specs.declared.shown.Address.{Address}
use Rattle.tpl_drawn.specs.declared.marks.numbers.Numbers.{Numbers}
use Rattle.tpl_drawn.specs.declared.marks.nodes.PageNodes.{PageNodes}

-- the address of a line in the row of that key
abbrev pub address_at : ℕ → Option (List ℕ) → Address
address_at line key = record { line = line; key = key }

-- the number that a map has at an address
abbrev pub number_in : {S : Type 0} → IndexMap Address ℕ S → Address → Option ℕ
number_in all a = get same_address all a

-- the number that was noted of an address
abbrev pub number_at : Numbers → Address → Option ℕ
number_at n a = number_in n.all a

-- a number, where a node of the tree has it
abbrev pub if_there : Forest Kind → Option ℕ → Option ℕ
if_there tree None = None
if_there tree (Some n) = if on n tree then Some n else None

-- the number that was noted of an address, where a node of the tree has it
abbrev pub among : Forest Kind → (Address → Option ℕ) → Address → Option ℕ
among tree number a = if_there tree (number a)

-- the number of the page's node of an address
abbrev pub number_on : PageNodes → Address → Option ℕ
number_on p a = among p.tree (number_at p.numbers) a

-- each address has the number of the node that has it, and any other has none
abbrev pub AreNumbersOf : (Address → Option ℕ) → Forest (ℕ × Look) → Type 0
AreNumbersOf number nodes =
    (a : Address) → number a ≡ (if on (address_of a) nodes then Some (label_in (0, Root) (address_of a) nodes).0 else None)

-- addresses noted one after the other, each with a number
abbrev pub noted : List Address → List ℕ → (Address → Option ℕ) → Address → Option ℕ
noted [] ns m = m
noted (x ∷ xs) [] m = m
noted (x ∷ xs) (n ∷ ns) m = noted xs ns (λ a. if same_address x a then Some n else m a)

-- addresses noted one after the other, each with the next number from this one on
abbrev pub noted_from : List Address → ℕ → (Address → Option ℕ) → Address → Option ℕ
noted_from [] n m = m
noted_from (x ∷ xs) n m = noted_from xs (n + 1) (λ a. if same_address x a then Some n else m a)

-- the addresses of the children that come with all below them
abbrev pub coming_in : List Next → List ℕ
coming_in [] = []
coming_in (stays n ∷ cs) = coming_in cs
coming_in (comes t ∷ cs) = keys t ++ coming_in cs

-- those of what comes to marked nodes, one node after the other
abbrev pub coming_below : List Marked → List ℕ
coming_below ms = flat_map (λ (m : Marked). coming_in m.children) ms
