-- How what was kept of lines is brought up to date: some of it stays whole, and of the rest the first line is heard again, before what is inside
-- it and what is behind it.
use Rattle.std.specs.Prelude.{◌≡◌, ◌<◌, ℕ, zero, suc, Bool, true, false, List, [], ◌∷◌, drop, length, map, Option, None, IfSome}
use Rattle.sig_base.specs.Tables.{Table}
use Rattle.sig_base.specs.declared.rows.Row.{Row}
use Rattle.sig_base.specs.declared.value.Fault.TheVariants.{Gone}
use Rattle.sig_base.specs.declared.value.Outcome.{Outcome}
use Rattle.sig_base.specs.declared.value.Outcome.TheVariants.{Bad}
use Rattle.sig_formula.specs.declared.formula.RowRef.{RowRef}
use Rattle.tpl_model.specs.Lines.{Block, empty, text, tag, choice, each, attempt}
use Rattle.tpl_model.specs.Sources.{same_here}
use Rattle.tpl_hearing.specs.Heard.{Grows, Outcomes}
use Rattle.tpl_model.specs.KeptLines.Kept.{heard_of, kept}
use Rattle.tpl_model.specs.PageUpdates.PageMemos.{PageMemo, unread, blank, either, names}
use Rattle.tpl_model.specs.KeptLines.Memos.{Makes, attempt_memo, branch_memo, lines_memo, loop_memo, rows_in, table_in, truth_in}
use Rattle.tpl_model.specs.KeptLines.Before.{WasListened, WasListenedAll, WasMade}
use Rattle.tpl_model.specs.KeptLines.Changes.{keys_in}
use Rattle.tpl_kept.specs.Renewals.{WasMadeIfRead, AreChanged, SlotsWere, is_unread}
use Rattle.tpl_kept.specs.declared.making.head.Head.{Head}
use Rattle.tpl_kept.specs.declared.making.head.Head.TheVariants as head
use Rattle.tpl_kept.specs.Heads.{Opens, behind, closed, inner_in, last_of, places_from, places_in, rest_in, shows_first}
use Rattle.tpl_kept.specs.declared.renewing.parts.First.{First}
use Rattle.tpl_kept.specs.declared.renewing.parts.First.TheVariants as start

-- ---- what was kept in some rows

-- what was kept first, or nothing
abbrev pub first_of : List PageMemo → PageMemo
first_of [] = unread
first_of (m ∷ ms) = m

-- what was kept behind it
abbrev pub later_of : List PageMemo → List PageMemo
later_of [] = []
later_of (m ∷ ms) = ms

-- what was kept of lines in each of some rows, as far as anything was
abbrev pub WereEach : Block → List ℕ → List (Option RowRef) → Outcomes → List PageMemo → Type 0
WereEach b links [] before ms = Unit {0}
WereEach b links (r ∷ rs) before ms = WasMadeIfRead (lines_memo b) links r before (first_of ms) × WereEach b links rs before (later_of ms)

-- ---- what was kept of lines, taken apart

-- the parts put together are what was kept, if anything was
abbrev pub IsApart : PageMemo → Head → List PageMemo → PageMemo → Type 0
IsApart m h inside later = is_unread m ≡ false → m ≡ closed h inside (later ∷ [])

-- what the test of a choice came to, or the rows of a loop; no other line has it
abbrev pub outcome_of : Head → Outcome
outcome_of (head.Choice h) = h.outcome
outcome_of (head.Each h) = h.outcome
outcome_of h = Bad Gone

-- what was kept of both parts of what is tried
abbrev pub WasTried : Block → Block → List ℕ → Option RowRef → Outcomes → PageMemo → PageMemo → Type 0
WasTried first second links row before x y = WasMade (attempt_memo false first second) links row before (either x y blank)

abbrev pub IsWasTried : Block → Block → List ℕ → Option RowRef → Outcomes → Head → Type 0
IsWasTried first second links row before (head.Attempt x y) = WasTried first second links row before (kept x.value) (kept y.value)
IsWasTried first second links row before h = ⊥

-- what was heard of the first of some lines
abbrev pub WasOpened : Block → List ℕ → Option RowRef → Outcomes → Head → Type 0
WasOpened empty links row before h = Unit {0}
WasOpened (text n f rest) links row before (head.Text x) = WasListened f links row before (heard_of x)
WasOpened (tag n name xs inner rest) links row before (head.Tag all) = WasListenedAll xs links row before (map heard_of all.items)
WasOpened (choice f one other rest) links row before (head.Choice x) = WasListened f links row before (heard_of x)
WasOpened (each f inner rest) links row before (head.Each x) = WasListened f links row before (heard_of x)
WasOpened (attempt first second rest) links row before h = IsWasTried first second links row before h
WasOpened b links row before h = ⊥

-- what was kept inside it, where it came to that
abbrev pub WasInside : Block → List ℕ → Option RowRef → Outcomes → Outcome → List PageMemo → Type 0
WasInside (tag n name xs inner rest) links row before o ms = WasMade (lines_memo inner) links row before (last_of ms)
WasInside (choice f one other rest) links row before o ms = WasMade (branch_memo (truth_in o) one other) links row before (last_of ms)
WasInside (each f inner rest) links row before o ms = WasMade (loop_memo (table_in o) inner) links None before (rows_in (table_in o) ms)
WasInside b links row before o ms = Unit {0}

-- what was kept behind it
abbrev pub WasBehind : Block → List ℕ → Option RowRef → Outcomes → PageMemo → Type 0
WasBehind (text n f rest) links row before m = WasMade (lines_memo rest) links row before m
WasBehind (tag n name xs inner rest) links row before m = WasMade (lines_memo rest) links row before m
WasBehind (choice f one other rest) links row before m = WasMade (lines_memo rest) links row before m
WasBehind (each f inner rest) links row before m = WasMade (lines_memo rest) links row before m
WasBehind (attempt first second rest) links row before m = WasMade (lines_memo rest) links row before m
WasBehind b links row before m = Unit {0}

-- ---- what was kept of the same rows

-- what was kept for the rows of one table serves for those of another
abbrev pub ServeRows : Table → Table → List PageMemo → List PageMemo → Type 0
ServeRows t u old ms =
    (b : Block) (links : List ℕ) (before : Outcomes) → SlotsWere b links t 0 before old → WereEach b links (places_from u 0 (length u.rows)) before ms

-- what is left of what was kept for the rows of a table is some of it, each at its place
abbrev pub SlotsStay : Table → List PageMemo → List PageMemo → Type 0
SlotsStay t old ms = (b : Block) (links : List ℕ) (before : Outcomes) → SlotsWere b links t 0 before old → SlotsWere b links t 0 before ms

-- where the rows that are left have the same keys, all have
abbrev pub KeysLeft : List Row → List Row → ℕ → Type 0
KeysLeft was rows n =
    map (λ (r : Row). r.key) (drop n was) ≡ map (λ (r : Row). r.key) (drop n rows) → map (λ (r : Row). r.key) was ≡ map (λ (r : Row). r.key) rows

-- a row of the key and the values of this one stands among those of a table
pub record IsAmong (t : Table) (r : RowRef) : Type 0 where
  pub place : ℕ
  pub inside : place < length t.rows
  pub same : same_here (record { rows = t; place = place }) r ≡ true

-- so it is for each of some rows for which anything was kept
abbrev pub AreAmong : Table → List (Option RowRef) → List PageMemo → Type 0
AreAmong t [] ms = Unit {0}
AreAmong t (r ∷ rs) ms = (is_unread (first_of ms) ≡ false → IfSome r (λ s. IsAmong t s)) × AreAmong t rs (later_of ms)

-- of what was kept for the rows of one table some is left, each at its place, and serves for the first so many rows of another
pub record RowsStand (t u : Table) (n : ℕ) (old ms : List PageMemo) : Type 0 where
  pub left : SlotsStay t old ms
  pub serve : (b : Block) (links : List ℕ) (before : Outcomes) → SlotsWere b links t 0 before old → WereEach b links (places_from u 0 n) before ms
  pub among : AreAmong t (places_from u 0 n) ms

-- so many rows of a table from place i on have the keys and values of those of another from place j on
abbrev pub AreAlike : Table → ℕ → Table → ℕ → ℕ → Type 0
AreAlike t i u j zero = Unit {0}
AreAlike t i u j (suc n) =
    (same_here (record { rows = t; place = i }) (record { rows = u; place = j }) ≡ true) × AreAlike t (suc i) u (suc j) n

-- What was kept inside a line serves where it is gone over again: of an element what was kept last, of a choice that of the same branch or
-- nothing, and of a loop that of rows that are alike.
abbrev pub ServeInside : Outcome → Head → List PageMemo → List PageMemo → Type 0
ServeInside was (head.Tag all) old ms = ms ≡ last_of old ∷ []
ServeInside was (head.Choice h) old ms = is_unread (first_of ms) ≡ false → (truth_in was ≡ truth_in h.outcome) × (first_of ms ≡ last_of old)
ServeInside was (head.Each h) old ms =
    ServeRows (table_in was) (table_in h.outcome) old ms
    × AreAmong (table_in was) (places_from (table_in h.outcome) 0 (length (table_in h.outcome).rows)) ms
ServeInside was h old ms = Unit {0}

-- a line is the same where its names have the outcomes of before, and a loop where its rows have their keys
abbrev pub IsSame : Outcome → Head → (heard same : Bool) → Type 0
IsSame was (head.Each h) heard same = same ≡ true → keys_in was ≡ keys_in h.outcome
IsSame was h heard same = same ≡ heard

-- ---- what is kept next

-- where the lines inside the first line are gone over; nowhere where all stays whole
abbrev pub places_of : First → Option RowRef → List (Option RowRef)
places_of (start.Whole x) row = []
places_of (start.Line h) row = places_in false h row

-- where the lines behind it are gone over
abbrev pub behind_of : First → Option RowRef → List (Option RowRef)
behind_of (start.Whole x) row = []
behind_of (start.Line h) row = behind false h row

-- whether the first branch of a choice is shown
abbrev pub shows_of : First → Bool
shows_of (start.Whole x) = false
shows_of (start.Line h) = shows_first h

-- what is kept of all lines
abbrev pub kept_of : First → List PageMemo → List PageMemo → PageMemo
kept_of (start.Whole x) inside later = kept x.memo
kept_of (start.Line h) inside later = closed h inside later

-- Lines that were kept are looked at, where they are to be, and the first of them is heard again; what was kept inside it and behind it is at hand.
pub record OpensAgain (b : Block) (links : List ℕ) (row : Option RowRef) (before earlier now : Outcomes) (h : Head)
    (inside later : List PageMemo) : Type 0 where
  pub memo : PageMemo
  pub mid : Outcomes
  pub was : WasMade (lines_memo b) links row before memo
  pub changed : AreChanged before (names memo) earlier mid
  pub opens : Opens false b links row mid now h
  pub grows : Grows mid now
  pub inside_was : WereEach (inner_in b (shows_first h)) links (places_in false h row) before inside
  pub later_was : WereEach (rest_in b) links (behind false h row) before later

-- so it is, or all of them are kept whole
abbrev pub Begins : Block → List ℕ → Option RowRef → Outcomes → Outcomes → Outcomes → First → List PageMemo → List PageMemo → Type 0
Begins b links row before earlier now (start.Whole x) inside later = Makes (lines_memo b) links row earlier now (kept x.memo)
Begins b links row before earlier now (start.Line h) inside later = OpensAgain b links row before earlier now h inside later
