-- What differs between a page's shape and the next one.
use Rattle.std.specs.Prelude.{ℕ, ◌+◌, ◌≤◌, ◌==◌, Bool, true, false, List, [], ◌∷◌, ◌++◌, map, ◌≡◌}
use Rattle.std.specs.List.{flat_map}
use Rattle.page_model.specs.Forest.{Forest, one, on, tally, kids, label_in, pruned, tops, numbered}
use Rattle.page_model.specs.Labels.{Root, Look, shown}
use Rattle.page_model.specs.Edits.{listed, siblings, child_edits, look_edits}
use Rattle.page_model.specs.Replay.{Op, OpRemove}
use Rattle.page_model.specs.Pages.{NumberedPage, page_shape, number_of, carried, ascending_by, newcomers, those}

-- how often a number is in a list
abbrev pub often : ℕ → List ℕ → ℕ
often j [] = 0
often j (n ∷ ns) = one (n == j) + often j ns

-- Kept nodes of these trees: each at most once, and each for which the fact doesn't hold.
pub record Marks {A : Type 0} (keep : ℕ → Bool) (Same : ℕ → Type 0) (trees : Forest A) (marks : List ℕ) : Type 0 where
  pub few : (j : ℕ) → often j marks ≤ tally j (pruned keep trees)
  pub rest : (j : ℕ) → on j (pruned keep trees) ≡ true → listed j marks ≡ false → Same j

-- The topmost nodes that are gone, in any order.
abbrev pub Gone : {A : Type 0} → (ℕ → Bool) → Forest A → List ℕ → Type 0
Gone keep trees gone = (j : ℕ) → often j gone ≡ often j (tops keep trees)

-- the same children, by address
abbrev pub SameChildren : Forest Look → Forest Look → ℕ → Type 0
SameChildren old new a = siblings (kids a old) ≡ siblings (kids a new)

-- the same text, or the same attributes
abbrev pub SameLook : Forest Look → Forest Look → ℕ → Type 0
SameLook old new a = label_in Root a old ≡ label_in Root a new

-- what was found: the topmost nodes that are gone, the kept nodes whose children differ, and those whose look differs
pub record Found : Type 0 where
  pub gone : List ℕ
  pub touched : List ℕ
  pub restated : List ℕ

-- what was found among these trees, of an old and a new shape, is what differs
pub record Finds (old new trees : Forest Look) (f : Found) : Type 0 where
  pub gone : Gone (λ a. on a new) trees f.gone
  pub touched : Marks (λ a. on a new) (SameChildren old new) trees f.touched
  pub restated : Marks (λ a. on a new) (SameLook old new) trees f.restated

-- ---- what is read from the tables, each in ascending order by number

-- the children of one kept node: its old ones that are kept, and its new ones
abbrev pub children_at : (ℕ → ℕ) → (ℕ → ℕ) → Forest Look → Forest Look → ℕ → List Op
children_at num num' old new a =
    child_edits (num a) 0 (map num (those (λ b. on b new) (siblings (kids a old)))) (shown (numbered num' (kids a new)))

-- the text or the attributes of one kept node
abbrev pub restated_at : (ℕ → ℕ) → Forest Look → Forest Look → ℕ → List Op
restated_at num old new a = look_edits (num a) (label_in Root a old) (label_in Root a new)

-- removals, then the children of each node, then texts and attributes
abbrev pub read_off : (ℕ → ℕ) → (ℕ → ℕ) → Forest Look → Forest Look → Found → List Op
read_off num num' old new f =
    (map OpRemove (map num (ascending_by num f.gone))
    ++ flat_map (children_at num num' old new) (ascending_by num f.touched))
    ++ flat_map (restated_at num old new) (ascending_by num f.restated)

-- the operations of a page
abbrev pub found_edits : NumberedPage → Forest Look → Found → List Op
found_edits old shape f = read_off (number_of old) (carried old shape) (page_shape old) shape f

-- the new addresses in the order of their numbers
abbrev pub found_order : NumberedPage → Forest Look → Found → List ℕ
found_order old shape f = flat_map (λ a. newcomers (λ b. on b (page_shape old)) (kids a shape)) (ascending_by (number_of old) f.touched)

-- ---- going over two trees side by side

-- nothing was found
abbrev pub nothing : Found
nothing = record { gone = []; touched = []; restated = [] }

-- an address put to a list where something holds
abbrev pub marked : Bool → ℕ → List ℕ → List ℕ
marked true a ms = a ∷ ms
marked false a ms = ms

-- a kept node over what was found below it: whether its children differ, and its look
abbrev pub found_at : ℕ → Bool → Bool → Found → Found
found_at a level look f = record { gone = f.gone; touched = marked level a f.touched; restated = marked look a f.restated }

-- each node of the part has in the whole the children and the look that it has here
pub record Within (whole part : Forest Look) : Type 0 where
  pub there : (j : ℕ) → on j part ≡ true → on j whole ≡ true
  pub kids_there : (j : ℕ) → on j part ≡ true → kids j whole ≡ kids j part
  pub look_there : (j : ℕ) → on j part ≡ true → label_in Root j whole ≡ label_in Root j part
