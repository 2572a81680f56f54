-- What a page keeps of its template's lines, and how it is brought up to date.
use Rattle.std.specs.Prelude.{ℕ, suc, Bool, true, false, ◌||◌, ◌&&◌, List, [], ◌∷◌, ◌++◌, map, Option, Some, if◌then◌else◌, ◌≡◌}
use Rattle.sig_base.specs.Tables.{Table}
use Rattle.sig_base.specs.declared.rows.Row.{Row}
use Rattle.sig_base.specs.declared.value.Value.TheVariants as value
use Rattle.sig_base.specs.declared.value.Outcome.{Outcome}
use Rattle.sig_base.specs.declared.value.Outcome.TheVariants.{Good}
use Rattle.sig_formula.specs.Trees.{Tree}
use Rattle.sig_formula.specs.declared.formula.RowRef.{RowRef}
use Rattle.signal_model.specs.Values.{Seen}
use Rattle.page_model.specs.Addresses.{address}
use Rattle.page_model.specs.Forest.{Forest, none, node, after}
use Rattle.page_model.specs.Labels.{Text, Element, Look}
use Rattle.tpl_model.specs.Lines.{Block, empty, text, tag, choice, each, attempt}
use Rattle.tpl_model.specs.Shapes.{Evaluating, Here, row_here, is_fault, node_text, attribute_value}
use Rattle.tpl_model.specs.Sources.{same_here}

-- what a line's formula read, by name and in order, and what it came to
pub record Heard : Type 0 where
  pub names : List ℕ
  pub outcome : Outcome

-- what is heard of a formula, by its row where it has one
abbrev pub Hearing : Type 0
Hearing = Option RowRef → Tree → Heard

-- what is heard where a formula is evaluated so
abbrev pub hearing : Evaluating → Hearing
hearing eval row f = record { names = map (λ (s : Seen). s.name) (eval row f).reads; outcome = (eval row f).outcome }

-- Lines one after the other, each with what was heard of it and what is kept inside it. Rows stand one after the other inside their loop.
-- Nothing is kept of lines that a fault before them kept from being read: `blank` stands for them as for no lines. `unread` stands for the second
-- part of a `try` whose first part is shown, and wherever all has to be made.
pub data PageMemo : Type 0 where
  unread : PageMemo
  blank : PageMemo
  line : (heard : Heard) (rest : PageMemo) → PageMemo
  element : (attributes : List Heard) (inner rest : PageMemo) → PageMemo
  branch : (test : Heard) (inner rest : PageMemo) → PageMemo
  loop : (rows : Heard) (inner rest : PageMemo) → PageMemo
  row : (here : Here) (inner next : PageMemo) → PageMemo
  either : (first second rest : PageMemo) → PageMemo

-- lines that are kept from being read where something holds
abbrev pub unless : Bool → PageMemo → PageMemo
unless true m = blank
unless false m = m

-- the second part of a `try`, which is read where the first has ended
abbrev pub where_ended : Bool → PageMemo → PageMemo
where_ended true m = m
where_ended false m = unread

-- of what two parts of a `try` show what is shown, by what is kept of the second: the first, where the second wasn't read
abbrev pub part_shown : PageMemo → Forest Look → Forest Look → Forest Look
part_shown unread first second = first
part_shown m first second = second

-- ---- what a memo says

-- whether one of the attributes met a fault
abbrev pub any_fault : List Heard → Bool
any_fault [] = false
any_fault (h ∷ hs) = is_fault h.outcome || any_fault hs

-- the names that the attributes read, in order
abbrev pub all_names : List Heard → List ℕ
all_names [] = []
all_names (h ∷ hs) = h.names ++ all_names hs

-- whether a line met a fault that no `try` hides
abbrev pub failed : PageMemo → Bool
failed unread = false
failed blank = false
failed (line h r) = is_fault h.outcome || failed r
failed (element hs i r) = (any_fault hs || failed i) || failed r
failed (branch h i r) = (is_fault h.outcome || failed i) || failed r
failed (loop h i r) = (is_fault h.outcome || failed i) || failed r
failed (row h i n) = failed i || failed n
failed (either a b r) = failed b || failed r

-- the names that were read, in order
abbrev pub names : PageMemo → List ℕ
names unread = []
names blank = []
names (line h r) = h.names ++ names r
names (element hs i r) = (all_names hs ++ names i) ++ names r
names (branch h i r) = (h.names ++ names i) ++ names r
names (loop h i r) = (h.names ++ names i) ++ names r
names (row h i n) = names i ++ names n
names (either a b r) = (names a ++ names b) ++ names r

-- the attributes with their values, as far as they were heard
abbrev pub values : List (List ℕ × Tree) → List Heard → List (List ℕ × Option (List ℕ))
values [] hs = []
values (x ∷ xs) [] = []
values (x ∷ xs) (h ∷ hs) = (x.0, attribute_value h.outcome) ∷ values xs hs

-- one of two by a truth, or neither
abbrev pub picks : {X : Type 0} → Outcome → X → X → X → X
picks (Good (value.Bool true)) one other neither = one
picks (Good (value.Bool false)) one other neither = other
picks _ one other neither = neither

-- the nodes of the rows of a loop, one row after the other
abbrev pub row_nodes : (Here → PageMemo → Forest Look) → PageMemo → Forest Look
row_nodes go (row h m next) = after (go h m) (row_nodes go next)
row_nodes go _ = none

-- the nodes that are shown, in the row of that key
abbrev pub nodes : Option (List ℕ) → Block → PageMemo → Forest Look
nodes k (text n f rest) (line h r) = node (address n k) (Text (node_text h.outcome)) none (nodes k rest r)
nodes k (tag n name xs inner rest) (element hs i r) = node (address n k) (Element name (values xs hs)) (nodes k inner i) (nodes k rest r)
nodes k (choice f one other rest) (branch h i r) = after (picks h.outcome (nodes k one i) (nodes k other i) none) (nodes k rest r)
nodes k (each f inner rest) (loop h i r) = after (row_nodes (λ (h : Here) (m : PageMemo). nodes (Some h.key) inner m) i) (nodes k rest r)
nodes k (attempt first second rest) (either a b r) = after (part_shown b (nodes k first a) (nodes k second b)) (nodes k rest r)
nodes k _ _ = none

-- ---- from scratch

-- what is heard of the attributes, to their end or, in the first part of a `try`, to the first that meets a fault
abbrev pub attributes_heard : Bool → Hearing → Option RowRef → List (List ℕ × Tree) → List Heard
attributes_heard ends hear r [] = []
attributes_heard ends hear r (x ∷ xs) = hear r x.1 ∷ (if ends && is_fault (hear r x.1).outcome then [] else attributes_heard ends hear r xs)

-- the rows of a loop from place i on
abbrev pub rows_memo : Bool → (Here → PageMemo) → Table → ℕ → List Row → PageMemo
rows_memo ends go t i [] = blank
rows_memo ends go t i (r ∷ rs) =
    let here : Here = record { key = r.key; row = record { rows = t; place = i } } in
    row here (go here) (unless (ends && failed (go here)) (rows_memo ends go t (suc i) rs))

-- the rows of a loop, where its formula comes to rows
abbrev pub each_memo : Bool → (Here → PageMemo) → Outcome → PageMemo
each_memo ends go (Good (value.Rows t)) = rows_memo ends go t 0 t.rows
each_memo ends go _ = blank

-- The lines of a block, gone over to their end or, in the first part of a `try`, to the first that meets a fault.
abbrev pub memo_of : Hearing → Bool → Option Here → Block → PageMemo
memo_of hear ends here empty = blank
memo_of hear ends here (text n f rest) =
    let h = hear (row_here here) f in
    line h (unless (ends && is_fault h.outcome) (memo_of hear ends here rest))
memo_of hear ends here (tag n name xs inner rest) =
    let hs = attributes_heard ends hear (row_here here) xs in
    let i = unless (ends && any_fault hs) (memo_of hear ends here inner) in
    element hs i (unless (ends && (any_fault hs || failed i)) (memo_of hear ends here rest))
memo_of hear ends here (choice f one other rest) =
    let h = hear (row_here here) f in
    let i = unless (ends && is_fault h.outcome) (picks h.outcome (memo_of hear ends here one) (memo_of hear ends here other) blank) in
    branch h i (unless (ends && (is_fault h.outcome || failed i)) (memo_of hear ends here rest))
memo_of hear ends here (each f inner rest) =
    let h = hear (row_here here) f in
    let i = unless (ends && is_fault h.outcome) (each_memo ends (λ r. memo_of hear ends (Some r) inner) h.outcome) in
    loop h i (unless (ends && (is_fault h.outcome || failed i)) (memo_of hear ends here rest))
memo_of hear ends here (attempt first second rest) =
    let a = memo_of hear true here first in
    let b = where_ended (failed a) (memo_of hear ends here second) in
    either a b (unless (ends && failed b) (memo_of hear ends here rest))

-- ---- brought up to date, where a test tells the names whose outcomes are as before

-- whether each of the names has the outcome of before
abbrev pub all_same : (ℕ → Bool) → List ℕ → Bool
all_same same [] = true
all_same same (n ∷ ns) = same n && all_same same ns

-- What was heard before and what is heard now: a line all of whose names are as before comes to the same, and in rows that are alike each
-- line comes to the same.
pub record Steady (same : ℕ → Bool) (hear later : Hearing) : Type 0 where
  pub heard : (r : Option RowRef) (f : Tree) → all_same same (hear r f).names ≡ true → hear r f ≡ later r f
  pub rows : (r s : RowRef) (f : Tree) → same_here r s ≡ true → hear (Some r) f ≡ hear (Some s) f

-- ---- the order of asking

-- names up to the first that has changed, and that one
abbrev pub up_to_change : (ℕ → Bool) → List ℕ → List ℕ
up_to_change same [] = []
up_to_change same (n ∷ ns) = n ∷ (if same n then up_to_change same ns else [])

-- where what was read before and what is read now have one beginning, up to the first name that has changed
abbrev pub Begins : (ℕ → Bool) → Hearing → Hearing → Type 0
Begins same hear later = (r : Option RowRef) (f : Tree) → up_to_change same (hear r f).names ≡ up_to_change same (later r f).names
