-- The edits that lead from one numbered tree to another.
use Rattle.std.specs.Prelude.{ℕ, zero, suc, ◌==◌, Bool, false, ◌||◌, leb, if◌then◌else◌, List, [], ◌∷◌, ◌++◌, map, Option, Some, None}
use Rattle.std.specs.List.{flat_map}
use Rattle.std.specs.Str.{bytes_eq}
use Rattle.page_model.specs.Forest.{Forest, none, node, on, keys, kids, label_in, pruned, tops}
use Rattle.page_model.specs.Labels.{Root, Text, Element, Kind, Look, shown}
use Rattle.page_model.specs.Replay.{Op, OpRemove, OpInsert, OpMove, OpText, OpAttr, OpUnattr}

-- ---- the children of one node

-- the number is in the list
abbrev pub listed : ℕ → List ℕ → Bool
listed n [] = false
listed n (m ∷ ms) = m == n || listed n ms

-- it stands at that place
abbrev pub placed : ℕ → ℕ → List ℕ → Bool
placed n i [] = false
placed n zero (m ∷ ms) = m == n
placed n (suc i) (m ∷ ms) = placed n i ms

-- the list with a number put in so that it stands at a place
abbrev pub put_at : ℕ → ℕ → List ℕ → List ℕ
put_at zero n ms = n ∷ ms
put_at (suc i) n [] = n ∷ []
put_at (suc i) n (m ∷ ms) = m ∷ put_at i n ms

-- the list without it
abbrev pub taken : ℕ → List ℕ → List ℕ
taken n [] = []
taken n (m ∷ ms) = if m == n then ms else m ∷ taken n ms

-- the numbers of siblings
abbrev pub siblings : {A : Type 0} → Forest A → List ℕ
siblings none = []
siblings (node n x k r) = n ∷ siblings r

-- the operations that lead from the numbers of the children as they are now to the new children of a node, from place i on:
-- each place is judged on the list as the earlier ones left it
abbrev pub child_edits : ℕ → ℕ → List ℕ → Forest Kind → List Op
child_edits p i now none = []
child_edits p i now (node n x k r) =
    if listed n now
    then (if placed n i now then child_edits p (suc i) now r else OpMove n i ∷ child_edits p (suc i) (put_at i n (taken n now)) r)
    else OpInsert p i n x k ∷ child_edits p (suc i) (put_at i n now) r

-- ---- what one kept node says

-- a present value is this one
abbrev pub same_value : Option (List ℕ) → List ℕ → Bool
same_value None v = false
same_value (Some u) v = bytes_eq u v

-- one line's operation, with its place among the present attributes, and those of the later lines
abbrev pub line_edits : ℕ → ℕ → List ℕ → Option (List ℕ) → Option (List ℕ) → (ℕ → List Op) → List Op
line_edits n i name None None later = later i
line_edits n i name (Some u) None later = OpUnattr n name ∷ later i
line_edits n i name old (Some v) later = if same_value old v then later (suc i) else OpAttr n i name v ∷ later (suc i)

-- the attributes that differ, line by line of the template
abbrev pub attribute_edits : ℕ → List (List ℕ × Option (List ℕ)) → List (List ℕ × Option (List ℕ)) → ℕ → List Op
attribute_edits n [] new i = []
attribute_edits n old [] i = []
attribute_edits n (a ∷ xs) (b ∷ bs) i = line_edits n i b.0 a.1 b.1 (attribute_edits n xs bs)

-- the text or the attributes of one node that differ
abbrev pub look_edits : ℕ → Look → Look → List Op
look_edits n (Text s) (Text t) = if bytes_eq s t then [] else OpText n t ∷ []
look_edits n (Element name old) (Element name' new) = attribute_edits n old new 0
look_edits n x y = []

-- ---- the whole

-- a number put into an ascending list
abbrev pub into : ℕ → List ℕ → List ℕ
into n [] = n ∷ []
into n (m ∷ ms) = if leb n m then n ∷ m ∷ ms else m ∷ into n ms

-- the numbers in ascending order
abbrev pub ascending : List ℕ → List ℕ
ascending [] = []
ascending (n ∷ ns) = into n (ascending ns)

-- by ascending number: removals of the topmost nodes that are gone; for each kept parent its children; for each kept node its text or attributes
abbrev pub edits : Forest Look → Forest Look → List Op
edits old new =
    let left = pruned (λ n. on n (shown new)) (shown old) in
    let kept = ascending (keys left) in
    (map OpRemove (ascending (tops (λ n. on n (shown new)) (shown old)))
    ++ flat_map (λ n. child_edits n 0 (siblings (kids n left)) (kids n (shown new))) kept)
    ++ flat_map (λ n. look_edits n (label_in Root n old) (label_in Root n new)) kept
