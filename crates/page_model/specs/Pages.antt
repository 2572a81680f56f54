-- Pages: shapes with numbers, how a page is carried to a new shape, and the edits between two pages.
use Rattle.std.specs.Prelude.{ℕ, suc, ◌+◌, ◌<◌, ◌≤◌, ◌==◌, leb, length, Bool, true, if◌then◌else◌, List, [], ◌∷◌, ◌++◌, ◌≡◌}
use Rattle.std.specs.List.{flat_map}
use Rattle.page_model.specs.Forest.{Forest, none, node, on, tally, keys, kids, parent, label_in, height}
use Rattle.page_model.specs.Labels.{Root, Kind, Look, shown, Alike, Sound, WellNamed}
use Rattle.page_model.specs.Replay.{Op}
use Rattle.page_model.specs.Edits.{edits}

-- a page: its nodes by address, each with its number and its look, and its next unused number
pub record NumberedPage : Type 0 where
  pub nodes : Forest (ℕ × Look)
  pub next : ℕ

-- a page's nodes by address
abbrev pub looks : Forest (ℕ × Look) → Forest Look
looks none = none
looks (node a x k r) = node a x.1 (looks k) (looks r)

-- a page's nodes by number
abbrev pub by_number : Forest (ℕ × Look) → Forest Look
by_number none = none
by_number (node a x k r) = node x.0 x.1 (by_number k) (by_number r)

-- the page before the first shape: its root alone
abbrev pub bare : NumberedPage
bare = record { nodes = node 0 (0, Root) none none; next = 1 }

-- the shape that a page has
abbrev pub page_shape : NumberedPage → Forest Look
page_shape p = looks p.nodes

-- the tree that operations are done on
abbrev pub tree_of : NumberedPage → Forest Kind
tree_of p = shown (by_number p.nodes)

-- the number of the node of an address
abbrev pub number_of : NumberedPage → ℕ → ℕ
number_of p a = (label_in (0, Root) a p.nodes).0

-- ---- renumbering

-- an address put into a list that is ascending by number
abbrev pub into_by : (ℕ → ℕ) → ℕ → List ℕ → List ℕ
into_by num a [] = a ∷ []
into_by num a (b ∷ bs) = if leb (num a) (num b) then a ∷ b ∷ bs else b ∷ into_by num a bs

-- a list of addresses, ascending by number
abbrev pub ascending_by : (ℕ → ℕ) → List ℕ → List ℕ
ascending_by num [] = []
ascending_by num (a ∷ xs) = into_by num a (ascending_by num xs)

-- the addresses of the new children among these with all below them, in document order
abbrev pub newcomers : {A : Type 0} → (ℕ → Bool) → Forest A → List ℕ
newcomers kept none = []
newcomers kept (node a x k r) = (if kept a then [] else a ∷ keys k) ++ newcomers kept r

-- those of the list that pass a test
abbrev pub those : (ℕ → Bool) → List ℕ → List ℕ
those test [] = []
those test (a ∷ xs) = if test a then a ∷ those test xs else those test xs

-- the new addresses in the order of the insertions: those below each kept parent, the parents by ascending number
abbrev pub new_order : NumberedPage → Forest Look → List ℕ
new_order old shape =
    let kept : ℕ → Bool = λ a. on a (page_shape old) in
    flat_map (λ a. newcomers kept (kids a shape)) (ascending_by (number_of old) (those (λ a. on a shape) (keys (page_shape old))))

-- how many of the list stand before it
abbrev pub place_in : ℕ → List ℕ → ℕ
place_in a [] = 0
place_in a (b ∷ bs) = if b == a then 0 else suc (place_in a bs)

-- an address that stood before keeps its number, and the new ones get the next numbers in their order
abbrev pub carried : NumberedPage → Forest Look → ℕ → ℕ
carried old shape a = if on a (page_shape old) then number_of old a else old.next + place_in a (new_order old shape)

-- a shape's nodes, each with its number
abbrev pub with_numbers : (ℕ → ℕ) → Forest Look → Forest (ℕ × Look)
with_numbers num none = none
with_numbers num (node a x k r) = node a (num a, x) (with_numbers num k) (with_numbers num r)

-- the page that has a new shape, numbered after the page before
abbrev pub renumbered : NumberedPage → Forest Look → NumberedPage
renumbered old shape = record { nodes = with_numbers (carried old shape) shape; next = old.next + length (new_order old shape) }

-- ---- edits

-- the operations from one page to another
abbrev pub edits_between : NumberedPage → NumberedPage → List Op
edits_between old new = edits (by_number old.nodes) (by_number new.nodes)

-- ---- what pages and shapes have to be

-- one root, with the address 0, above all other nodes
pub record IsRooted {A : Type 0} (root : A) (tree : Forest A) : Type 0 where
  pub below : Forest A
  pub is : tree ≡ node 0 root below none

-- a page: addresses and numbers are distinct, the root has the number 0, and the numbers are below the next unused one
pub record IsPage (p : NumberedPage) : Type 0 where
  pub rooted : IsRooted (0, Root) p.nodes
  pub once : (a : ℕ) → tally a (page_shape p) ≤ 1
  pub below : (a : ℕ) → on a (page_shape p) ≡ true → number_of p a < p.next
  pub distinct : (a b : ℕ) → on a (page_shape p) ≡ true → on b (page_shape p) ≡ true → number_of p a ≡ number_of p b → a ≡ b

-- a shape: addresses are distinct, only nodes that can hold children have some, below the root are texts and elements under
-- names of HTML, and no node stands more than 32 steps below the root
pub record IsShape (shape : Forest Look) : Type 0 where
  pub rooted : IsRooted Root shape
  pub once : (a : ℕ) → tally a shape ≤ 1
  pub sound : Sound shape
  pub names : WellNamed rooted.below
  pub low : height shape ≤ 33

-- two shapes of one template: a common address has the same parent and comes from the same line
pub record SameOrigin (old new : Forest Look) : Type 0 where
  pub parents : (a : ℕ) → on a old ≡ true → on a new ≡ true → parent a old ≡ parent a new
  pub lines : (a : ℕ) → on a old ≡ true → on a new ≡ true → Alike (label_in Root a old) (label_in Root a new)
