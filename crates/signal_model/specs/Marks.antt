-- How a signal stands while nothing is evaluated.
use Rattle.std.specs.Prelude.{◌≡◌, ℕ, zero, suc, ◌||◌, ◌&&◌, Bool, true, false, List, [], ◌∷◌, length, if◌then◌else◌}
use Rattle.signal_model.specs.Signals.{Signals, is_computed, standing}
use Rattle.signal_model.specs.Memos.{Source, Memos, keeps, must_run, sources_of}

-- what is kept below a name: the sources that it keeps, those that they keep, and so on
pub data IsBelow (k : Memos) : ℕ → ℕ → Type 0 where
  kept : {n m : ℕ} → keeps k n m ≡ true → IsBelow k n m
  kept_below : {n p m : ℕ} → keeps k n p ≡ true → IsBelow k p m → IsBelow k n m

-- a computed that must run
abbrev pub is_due : Signals → Memos → ℕ → Bool
is_due w k n = is_computed (standing w n) && must_run k n []

-- a name that passes a test is kept below another
pub record HasBelow (test : ℕ → Bool) (k : Memos) (n : ℕ) : Type 0 where
  pub name : ℕ
  pub below : IsBelow k n name
  pub passes : test name ≡ true

-- `Dirty` must run, `Checked` keeps something that must, perhaps far below, and `Clean` is neither
pub data Mark : Type 0 where
  Clean Checked Dirty : Mark

-- whether a computed has the mark
abbrev pub IsMark : Signals → Memos → ℕ → Mark → Type 0
IsMark w k n Dirty = must_run k n [] ≡ true
IsMark w k n Checked = (must_run k n [] ≡ false) × HasBelow (is_due w k) k n
IsMark w k n Clean = (must_run k n [] ≡ false) × ((m : ℕ) → IsBelow k n m → is_due w k m ≡ false)

-- ---- how a mark is found

-- some name of the sources passes a test
abbrev pub some_source : (ℕ → Bool) → List Source → Bool
some_source test [] = false
some_source test (s ∷ ss) = test s.name || some_source test ss

-- a name that passes a test stands at most so many steps below along kept sources
abbrev pub found_below : (ℕ → Bool) → ℕ → Memos → ℕ → Bool
found_below test zero k n = false
found_below test (suc far) k n = some_source (λ m. test m || found_below test far k m) (sources_of k n)

-- a computed that must run does
abbrev pub due_below : ℕ → Signals → Memos → ℕ → Bool
due_below far w k n = found_below (is_due w k) far k n

-- the mark of a computed; no way along distinct computeds is longer than there are computeds
abbrev pub mark_of : Signals → Memos → ℕ → Mark
mark_of w k n = if must_run k n [] then Dirty else (if due_below (length w.computeds) w k n then Checked else Clean)
