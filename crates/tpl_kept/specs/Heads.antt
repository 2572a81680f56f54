-- What is made of lines: what is heard of the first of them, where the lines inside it and behind it are made, and how these are put together.
use Rattle.std.specs.Prelude.{◌≡◌, ◌<◌, ◌+◌, ◌^◌, ◌&&◌, ◌||◌, ℕ, zero, suc, Bool, true, false, List, [], ◌∷◌, ◌++◌, length, map, Option, Some, None}
use Rattle.std.specs.Option.{unwrap_or}
use Rattle.sig_base.specs.Tables.{Table}
use Rattle.sig_formula.specs.Trees.{Tree}
use Rattle.sig_formula.specs.declared.formula.RowRef.{RowRef}
use Rattle.tpl_model.specs.Lines.{Block, empty, text, tag, choice, each, attempt}
use Rattle.tpl_hearing.specs.Heard.{Grows, Outcomes}
use Rattle.tpl_model.specs.Shapes.{is_fault}
use Rattle.tpl_model.specs.KeptLines.Kept.{heard_of, kept, rows_of}
use Rattle.tpl_model.specs.declared.memo.Heard.{Heard}
use Rattle.tpl_model.specs.PageUpdates.PageMemos.{PageMemo, unread, blank, line, element, branch, loop, either, any_fault, failed}
use Rattle.tpl_model.specs.KeptLines.Memos.{Listens, ListensUpTo, Makes, attempt_memo, part_memo, table_in, truth_in}
use Rattle.tpl_kept.specs.declared.making.head.Head.{Head}
use Rattle.tpl_kept.specs.declared.making.head.Head.TheVariants as head

-- the row where lines stand is one of its rows
abbrev pub IsRow : Option RowRef → Type 0
IsRow None = Unit {0}
IsRow (Some r) = r.place < length r.rows.rows

-- so it is for each of some
abbrev pub AreRows : List (Option RowRef) → Type 0
AreRows [] = Unit {0}
AreRows (r ∷ rs) = IsRow r × AreRows rs

-- what is kept of both parts of what is tried
abbrev pub IsTried : Bool → Block → Block → List ℕ → Option RowRef → Outcomes → Outcomes → Head → Type 0
IsTried ends first second links row earlier now h =
    (x : _) × (y : _) × ((h ≡ head.Attempt x y)
    × Makes (attempt_memo ends first second) links row earlier now (either (kept x.value) (kept y.value) blank))

-- what was heard of the first of some lines, of what is tried what is kept of both parts
abbrev pub Opens : Bool → Block → List ℕ → Option RowRef → Outcomes → Outcomes → Head → Type 0
Opens ends empty links row earlier now h = (h ≡ head.Nothing) × (now ≡ earlier)
Opens ends (text n f rest) links row earlier now h = (x : Heard) × ((h ≡ head.Text x) × Listens f links row earlier now (heard_of x))
Opens ends (tag n name xs inner rest) links row earlier now h =
    (all : _) × ((h ≡ head.Tag all) × ListensUpTo ends xs links row earlier now (map heard_of all.items))
Opens ends (choice f one other rest) links row earlier now h = (x : Heard) × ((h ≡ head.Choice x) × Listens f links row earlier now (heard_of x))
Opens ends (each f inner rest) links row earlier now h = (x : Heard) × ((h ≡ head.Each x) × Listens f links row earlier now (heard_of x))
Opens ends (attempt first second rest) links row earlier now h = IsTried ends first second links row earlier now h

-- whether it met a fault
abbrev pub met_fault : Head → Bool
met_fault head.Nothing = false
met_fault (head.Text h) = is_fault h.outcome
met_fault (head.Tag all) = any_fault (map heard_of all.items)
met_fault (head.Choice h) = is_fault h.outcome
met_fault (head.Each h) = is_fault h.outcome
met_fault (head.Attempt x y) = failed (kept y.value)

-- whether lines of one of some met a fault
abbrev pub any_failed : List PageMemo → Bool
any_failed [] = false
any_failed (m ∷ ms) = failed m || any_failed ms

-- whether the first branch of a choice is shown
abbrev pub shows_first : Head → Bool
shows_first (head.Choice h) = unwrap_or (truth_in h.outcome) false
shows_first h = false

-- the lines inside the first line; a text and no line have themselves in their place
abbrev pub inner_in : Block → Bool → Block
inner_in (tag n name xs inner rest) first = inner
inner_in (choice f one other rest) true = one
inner_in (choice f one other rest) false = other
inner_in (each f inner rest) first = inner
inner_in b first = b

-- whether the first line is a text
abbrev pub is_text : Block → Bool
is_text (text n f rest) = true
is_text b = false

-- it has this formula
abbrev pub IsText : Block → Tree → Type 0
IsText (text n f rest) g = f ≡ g
IsText b g = ⊥

-- the attributes of the first line; any line but an element has none
abbrev pub attributes_in : Block → List (List ℕ × Tree)
attributes_in (tag n name xs inner rest) = xs
attributes_in b = []

-- the lines of the first part of what is tried; any other line has itself in its place
abbrev pub first_part : Block → Block
first_part (attempt first second rest) = first
first_part b = b

-- those of the second part
abbrev pub second_part : Block → Block
second_part (attempt first second rest) = second
second_part b = b

-- where both are made; nowhere for any other line
abbrev pub places_tried : Block → Option RowRef → List (Option RowRef)
places_tried (attempt first second rest) row = row ∷ []
places_tried b row = []

-- the lines behind the first
abbrev pub rest_in : Block → Block
rest_in (text n f rest) = rest
rest_in (tag n name xs inner rest) = rest
rest_in (choice f one other rest) = rest
rest_in (each f inner rest) = rest
rest_in (attempt first second rest) = rest
rest_in b = b

-- some rows of a table, from place i on
abbrev pub places_from : Table → ℕ → ℕ → List (Option RowRef)
places_from t i zero = []
places_from t i (suc n) = Some (record { rows = t; place = i }) ∷ places_from t (suc i) n

-- a row, where a branch is shown
abbrev pub where_shown : Option Bool → Option RowRef → List (Option RowRef)
where_shown (Some b) row = row ∷ []
where_shown None row = []

-- rows, unless a fault before them ended all
abbrev pub unless_ended : Bool → List (Option RowRef) → List (Option RowRef)
unless_ended true rows = []
unless_ended false rows = rows

-- where the lines inside the first line are made
abbrev pub places_in : Bool → Head → Option RowRef → List (Option RowRef)
places_in ends (head.Tag all) row = unless_ended (ends && any_fault (map heard_of all.items)) (row ∷ [])
places_in ends (head.Choice h) row = where_shown (truth_in h.outcome) row
places_in ends (head.Each h) row = places_from (table_in h.outcome) 0 (length (table_in h.outcome).rows)
places_in ends h row = []

-- where the lines behind it are made, unless all ended before them
abbrev pub behind : Bool → Head → Option RowRef → List (Option RowRef)
behind over head.Nothing row = []
behind over h row = unless_ended over (row ∷ [])

-- what is kept last, or that of no lines
abbrev pub last_of : List PageMemo → PageMemo
last_of [] = blank
last_of (m ∷ []) = m
last_of (m ∷ k ∷ ms) = last_of (k ∷ ms)

-- what is kept last, or that nothing was read
abbrev pub last_read : List PageMemo → PageMemo
last_read [] = unread
last_read (m ∷ ms) = last_of (m ∷ ms)

-- what is tried, by what is kept of both of its parts
abbrev pub IsAttempted : Head → List PageMemo → List PageMemo → Type 0
IsAttempted h xs ys = (x : _) × (y : _) × ((h ≡ head.Attempt x y) × ((kept x.value ≡ last_of xs) × (kept y.value ≡ last_read ys)))

-- what was heard of the first of some lines, where both parts of what is tried were made before
abbrev pub OpensOn : Bool → Block → List ℕ → Option RowRef → Outcomes → Outcomes → List PageMemo → List PageMemo → Head → Type 0
OpensOn ends (attempt first second rest) links row earlier now xs ys h = IsAttempted h xs ys × (now ≡ earlier)
OpensOn ends b links row earlier now xs ys h = Opens ends b links row earlier now h

-- what is kept of lines: of the first, over what is kept inside it and behind it
abbrev pub closed : Head → List PageMemo → List PageMemo → PageMemo
closed head.Nothing inside later = blank
closed (head.Text h) inside later = line (heard_of h) (last_of later)
closed (head.Tag all) inside later = element (map heard_of all.items) (last_of inside) (last_of later)
closed (head.Choice h) inside later = branch (heard_of h) (last_of inside) (last_of later)
closed (head.Each h) inside later = loop (heard_of h) (rows_of h.outcome inside) (last_of later)
closed (head.Attempt x y) inside later = either (kept x.value) (kept y.value) (last_of later)

-- what lines were made once, behind what was kept, and others were made later
pub record MakesFirst (ends : Bool) (b : Block) (links : List ℕ) (row : Option RowRef) (earlier : Outcomes) (Later : Outcomes → PageMemo → Type 0)
    : Type 0 where
  pub mid : Outcomes
  pub memo : PageMemo
  pub made : Makes (part_memo ends b) links row earlier mid memo
  pub grows : Grows earlier mid
  pub later : Later mid memo

-- one thing where all ended, and otherwise another
abbrev pub WhereOver : Bool → Type 0 → Type 0 → Type 0
WhereOver true Over On = Over
WhereOver false Over On = On

-- Lines are made in each of some rows, one after the other, behind what was kept; in the first part of a `try` no row is made behind one where
-- a line met a fault.
abbrev pub MakesEach : Bool → Block → List ℕ → List (Option RowRef) → Outcomes → Outcomes → List PageMemo → List PageMemo → Type 0
MakesEach ends b links [] earlier now before after = (now ≡ earlier) × (after ≡ before)
MakesEach ends b links (r ∷ rs) earlier now before after =
    MakesFirst ends b links r earlier
    (λ mid m. WhereOver (ends && failed m) ((now ≡ mid) × (after ≡ before ++ m ∷ [])) (MakesEach ends b links rs mid now (before ++ m ∷ []) after))

-- it is told whether lines that were put behind others met a fault
abbrev pub TellsFault : List PageMemo → List PageMemo → Bool → Type 0
TellsFault before after met = any_failed after ≡ (any_failed before || met)

-- what is left to go over of lines falls by more than there are rows with each line
abbrev pub lines_size : Block → ℕ
lines_size empty = 0
lines_size (text n f rest) = 2 ^ 64 + lines_size rest
lines_size (tag n name xs inner rest) = 2 ^ 64 + (lines_size inner + lines_size rest)
lines_size (choice f one other rest) = 2 ^ 64 + (lines_size one + lines_size other + lines_size rest)
lines_size (each f inner rest) = 2 ^ 64 + (lines_size inner + lines_size rest)
lines_size (attempt first second rest) = 2 ^ 64 + (lines_size first + lines_size second + lines_size rest)
