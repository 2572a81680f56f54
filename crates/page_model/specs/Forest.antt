-- Siblings with what stands under each, and the edits of them. The same form serves a page, whose keys
-- are numbers, and a shape, whose keys are addresses; the root is a node like the others, with the key 0.
use Rattle.std.specs.Prelude.{ℕ, suc, zero, ◌+◌, ◌==◌, max, Bool, true, false, ◌||◌, if◌then◌else◌, List, [], ◌∷◌, ◌++◌}

-- siblings in order: the key of the first, its label, its children, and the siblings after it
pub data Forest (A : Type 0) : Type 0 where
  none : Forest A
  node : (key : ℕ) (label : A) (kids rest : Forest A) → Forest A

-- ---- one list of siblings

-- two lists of siblings, one after the other
abbrev pub after : {A : Type 0} → Forest A → Forest A → Forest A
after none ys = ys
after (node n x k r) ys = node n x k (after r ys)

-- how many siblings
abbrev pub count : {A : Type 0} → Forest A → ℕ
count none = 0
count (node n x k r) = suc (count r)

-- the key stands among the siblings
abbrev pub has : {A : Type 0} → ℕ → Forest A → Bool
has n none = false
has n (node m x k r) = m == n || has n r

-- the sibling of that key alone, with all under it
abbrev pub only : {A : Type 0} → ℕ → Forest A → Forest A
only n none = none
only n (node m x k r) = if m == n then node m x k none else only n r

-- the siblings without it
abbrev pub without : {A : Type 0} → ℕ → Forest A → Forest A
without n none = none
without n (node m x k r) = if m == n then r else node m x k (without n r)

-- the siblings with others put in so that they stand at a place
abbrev pub put : {A : Type 0} → ℕ → Forest A → Forest A → Forest A
put zero xs ys = after xs ys
put (suc i) xs none = xs
put (suc i) xs (node m y k r) = node m y k (put i xs r)

-- the sibling of that key stands at that place
abbrev pub stands : {A : Type 0} → ℕ → ℕ → Forest A → Bool
stands n i none = false
stands n zero (node m x k r) = m == n
stands n (suc i) (node m x k r) = stands n i r

-- the sibling is taken out and put at the place
abbrev pub moved : {A : Type 0} → ℕ → ℕ → Forest A → Forest A
moved n i now = put i (only n now) (without n now)

-- ---- at any depth

-- the key stands somewhere in the trees
abbrev pub on : {A : Type 0} → ℕ → Forest A → Bool
on n none = false
on n (node m x k r) = m == n || (on n k || on n r)

-- one for a fact, none otherwise
abbrev pub one : Bool → ℕ
one true = 1
one false = 0

-- how often the key stands in the trees
abbrev pub tally : {A : Type 0} → ℕ → Forest A → ℕ
tally n none = 0
tally n (node m x k r) = one (m == n) + (tally n k + tally n r)

-- the keys, in document order
abbrev pub keys : {A : Type 0} → Forest A → List ℕ
keys none = []
keys (node m x k r) = m ∷ (keys k ++ keys r)

-- the children of the node of that key
abbrev pub kids : {A : Type 0} → ℕ → Forest A → Forest A
kids p none = none
kids p (node m x k r) = if m == p then k else (if on p k then kids p k else kids p r)

-- the key of the node among whose children the key stands; 0 where there is none
abbrev pub parent : {A : Type 0} → ℕ → Forest A → ℕ
parent n none = 0
parent n (node m x k r) = if has n k then m else (if on n k then parent n k else parent n r)

-- the label of a node, or a given one where there is none
abbrev pub label_in : {A : Type 0} → A → ℕ → Forest A → A
label_in d n none = d
label_in d n (node m x k r) = if m == n then x else (if on n k then label_in d n k else label_in d n r)

-- how many steps the node of that key stands below the first siblings
abbrev pub depth : {A : Type 0} → ℕ → Forest A → ℕ
depth n none = 0
depth n (node m x k r) = if m == n then 0 else (if on n k then suc (depth n k) else depth n r)

-- how many nodes the longest way down has
abbrev pub height : {A : Type 0} → Forest A → ℕ
height none = 0
height (node m x k r) = max (suc (height k)) (height r)

-- the children of one node edited
abbrev pub at : {A : Type 0} → ℕ → (Forest A → Forest A) → Forest A → Forest A
at p f none = none
at p f (node m x k r) = node m x (if m == p then f k else at p f k) (at p f r)

-- the nodes of these keys, each with its label; what stands below another is gone with it
abbrev pub pruned : {A : Type 0} → (ℕ → Bool) → Forest A → Forest A
pruned keep none = none
pruned keep (node m x k r) = if keep m then node m x (pruned keep k) (pruned keep r) else pruned keep r

-- the topmost nodes that aren't of these keys
abbrev pub tops : {A : Type 0} → (ℕ → Bool) → Forest A → List ℕ
tops keep none = []
tops keep (node m x k r) = if keep m then tops keep k ++ tops keep r else m ∷ tops keep r

-- the node of that key with another label
abbrev pub relabelled : {A : Type 0} → ℕ → A → Forest A → Forest A
relabelled n t none = none
relabelled n t (node m x k r) = node m (if m == n then t else x) (relabelled n t k) (relabelled n t r)

-- the same trees, each label seen in another way
abbrev pub mapped : {A B : Type 0} → (A → B) → Forest A → Forest B
mapped f none = none
mapped f (node m x k r) = node m (f x) (mapped f k) (mapped f r)

-- the same trees with other keys
abbrev pub numbered : {A : Type 0} → (ℕ → ℕ) → Forest A → Forest A
numbered num none = none
numbered num (node a x k r) = node (num a) x (numbered num k) (numbered num r)
