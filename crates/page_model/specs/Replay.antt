-- Operations on a numbered tree, whose root has the number 0, and their replay.
use Rattle.std.specs.Prelude.{ℕ, zero, suc, ◌==◌, Bool, ◌&&◌, ◌||◌, not, leb, ltb, length, if◌then◌else◌, List, [], ◌∷◌, Option, Some, None}
use Rattle.std.specs.Str.{bytes_eq}
use Rattle.page_model.specs.Forest.{Forest, none, node, count, put, moved, on, tally, kids, parent, label_in, depth, at, pruned, relabelled}
use Rattle.page_model.specs.Labels.{Root, Text, Element, Kind, holds}

-- an operation; an insertion brings a numbered node with all below it
pub data Op : Type 0 where
  OpRemove : (number : ℕ) → Op
  OpInsert : (parent place number : ℕ) (label : Kind) (below : Forest Kind) → Op
  OpMove : (number place : ℕ) → Op
  OpText : (number : ℕ) (text : List ℕ) → Op
  OpAttr : (number place : ℕ) (name value : List ℕ) → Op
  OpUnattr : (number : ℕ) (name : List ℕ) → Op

-- why an operation is refused, in the order in which the causes are looked for
pub data OpRefusal : Type 0 where
  NoSuchNode : (number : ℕ) → OpRefusal
  NoSuchPlace : (place : ℕ) → OpRefusal
  NumberUsed : (number : ℕ) → OpRefusal
  TooDeep : (number : ℕ) → OpRefusal

-- the tree after, or a refusal
pub data Answer : Type 0 where
  Done : (tree : Forest Kind) → Answer
  Refused : (why : OpRefusal) → Answer

-- the first number that is there
abbrev pub or_else : Option ℕ → Option ℕ → Option ℕ
or_else None o = o
or_else (Some n) o = Some n

-- the first number of the part, in document order, that is on the page or stands twice in the whole
abbrev pub first_used : {A : Type 0} → Forest A → Forest A → Forest A → Option ℕ
first_used whole none now = None
first_used whole (node n x k r) now = if on n now || ltb 1 (tally n whole) then Some n else or_else (first_used whole k now) (first_used whole r now)

-- the first number, in document order, of a node more than 32 steps below the root, where the siblings stand d steps below it
abbrev pub first_deep : {A : Type 0} → ℕ → Forest A → Option ℕ
first_deep d none = None
first_deep d (node n x k r) = if ltb 32 d then Some n else or_else (first_deep (suc d) k) (first_deep d r)

-- refused where a number is found
abbrev pub unless_found : (ℕ → OpRefusal) → Option ℕ → Answer → Answer
unless_found why None a = a
unless_found why (Some n) a = Refused (why n)

-- the attributes without the first of that name
abbrev pub others : {V : Type 0} → List ℕ → List (List ℕ × V) → List (List ℕ × V)
others name [] = []
others name (a ∷ rest) = if bytes_eq a.0 name then rest else a ∷ others name rest

-- the attributes with one put in so that it stands at a place
abbrev pub put_in : {V : Type 0} → ℕ → List ℕ × V → List (List ℕ × V) → List (List ℕ × V)
put_in zero a rest = a ∷ rest
put_in (suc i) a [] = a ∷ []
put_in (suc i) a (b ∷ rest) = b ∷ put_in i a rest

-- a text operation on the node with this label
abbrev pub do_text : ℕ → List ℕ → Kind → Forest Kind → Answer
do_text n t (Text s) now = Done (relabelled n (Text t) now)
do_text n t x now = Refused (NoSuchNode n)

-- an attribute is taken out where it is there, and put at its place among the others
abbrev pub do_attr : ℕ → ℕ → List ℕ → List ℕ → Kind → Forest Kind → Answer
do_attr n i name value (Element element xs) now =
    if leb i (length (others name xs))
    then Done (relabelled n (Element element (put_in i (name, value) (others name xs))) now) else Refused (NoSuchPlace i)
do_attr n i name value x now = Refused (NoSuchNode n)

-- an attribute is taken out where it is there
abbrev pub do_unattr : ℕ → List ℕ → Kind → Forest Kind → Answer
do_unattr n name (Element element xs) now = Done (relabelled n (Element element (others name xs)) now)
do_unattr n name x now = Refused (NoSuchNode n)

-- the number is on the page and isn't the root's
abbrev pub below_root : ℕ → Forest Kind → Bool
below_root n now = on n now && not (n == 0)

-- what an operation makes of the tree
abbrev pub do_op : Op → Forest Kind → Answer
do_op (OpRemove n) now = if below_root n now then Done (pruned (λ m. not (m == n)) now) else Refused (NoSuchNode n)
do_op (OpInsert p i n x k) now =
    if on p now && holds (label_in Root p now)
    then (if leb i (count (kids p now))
    then unless_found NumberUsed (first_used (node n x k none) (node n x k none) now)
    (unless_found TooDeep (first_deep (suc (depth p now)) (node n x k none)) (Done (at p (put i (node n x k none)) now)))
    else Refused (NoSuchPlace i))
    else Refused (NoSuchNode p)
do_op (OpMove n i) now =
    if below_root n now
    then (if ltb i (count (kids (parent n now) now)) then Done (at (parent n now) (moved n i) now) else Refused (NoSuchPlace i))
    else Refused (NoSuchNode n)
do_op (OpText n t) now = do_text n t (label_in Root n now) now
do_op (OpAttr n i name value) now = do_attr n i name value (label_in Root n now) now
do_op (OpUnattr n name) now = do_unattr n name (label_in Root n now) now

-- what comes next on the tree after, or the refusal
abbrev pub then_on : Answer → (Forest Kind → Answer) → Answer
then_on (Done t) f = f t
then_on (Refused why) f = Refused why

-- the operations one after the other, up to a refusal
abbrev pub replay : List Op → Forest Kind → Answer
replay [] now = Done now
replay (o ∷ os) now = then_on (do_op o now) (replay os)
