-- Dependants and pushed marks, which a store keeps beside its signals and memos. `dependants m d` says that d is a dependant of m, `marked n` that
-- the computed n is marked: something below it may have changed since it was last found clean. `computing n` says that n is being evaluated.
use Rattle.std.specs.Prelude.{◌≡◌, ℕ, zero, suc, ◌==◌, ◌||◌, ◌&&◌, not, Bool, true, false, List, [], ◌∷◌, length, Some, None, if◌then◌else◌}
use Rattle.sig_base.specs.declared.value.Outcome.{Outcome}
use Rattle.signal_model.specs.Signals.{Signals, is_computed, is_in, is_there, standing}
use Rattle.signal_model.specs.Memos.{Memo, Memos, entry_at, memo_of, sources_of, source_names, keeps, is_cycle, holds_cycle, some_moved, must_run}
use Rattle.signal_model.specs.Marks.{Mark, Clean, Checked, Dirty, is_due, some_source}
use Rattle.signal_model.specs.Kept.{OnlyComputedsKeep}

-- An unmarked computed has a memo that isn't `cycle`; it wasn't rewired since; its sources' numbers are those that it read; and each
-- kept source is a cell, gone or unmarked.
pub record IsUnmarked (w : Signals) (k : Memos) (marked : ℕ → Bool) (n : ℕ) : Type 0 where
  pub memo : Memo
  pub at : memo_of k n ≡ Some memo
  pub fine : is_cycle memo.outcome ≡ false
  pub wired : memo.rewired ≡ false
  pub current : some_moved k [] memo.sources ≡ false
  pub sources : (m : ℕ) → is_in m (source_names memo.sources) ≡ true → is_computed (standing w m) ≡ true → marked m ≡ false

-- so is each computed that isn't marked
abbrev pub AreUnmarked : Signals → Memos → (ℕ → Bool) → Type 0
AreUnmarked w k marked = (n : ℕ) → is_computed (standing w n) ≡ true → marked n ≡ false → IsUnmarked w k marked n

-- the dependants of a signal that stands are exactly those that keep it
abbrev pub AreDependants : Signals → Memos → (ℕ → ℕ → Bool) → Type 0
AreDependants w k dependants = (m d : ℕ) → is_there (standing w m) ≡ true → dependants m d ≡ keeps k d m

-- Dependants and marks are true of what stands and is kept; what is computing is marked, and only computeds keep sources.
pub record AreMarked (w : Signals) (k : Memos) (dependants : ℕ → ℕ → Bool) (marked computing : ℕ → Bool) : Type 0 where
  pub links : AreDependants w k dependants
  pub clean : AreUnmarked w k marked
  pub running : (n : ℕ) → computing n ≡ true → marked n ≡ true
  pub owners : OnlyComputedsKeep w k

-- The marking from n came to its end, from the marks t to the marks u: no mark went, the dependants of n are marked, and so are those
-- of each computed that was marked newly.
pub record HasSpread (w : Signals) (dependants : ℕ → ℕ → Bool) (t u : ℕ → Bool) (n : ℕ) : Type 0 where
  pub more : (m : ℕ) → t m ≡ true → u m ≡ true
  pub start : (d : ℕ) → dependants n d ≡ true → u d ≡ true
  pub on : (m d : ℕ) → is_computed (standing w m) ≡ true → t m ≡ false → u m ≡ true → dependants m d ≡ true → u d ≡ true

-- a name that has no entry, and that nobody keeps
pub record IsUnused (k : Memos) (n : ℕ) : Type 0 where
  pub entry : entry_at n k.entries ≡ None
  pub unread : (d : ℕ) → keeps k d n ≡ false

-- whether one of these names is a marked computed
abbrev pub some_marked : Signals → (ℕ → Bool) → List ℕ → Bool
some_marked w marked [] = false
some_marked w marked (m ∷ ms) = (is_computed (standing w m) && marked m) || some_marked w marked ms

-- whether a run takes the mark of its computed: its outcome isn't `cycle`, and each signal that it read is a cell, gone or unmarked
abbrev pub run_unmarks : Signals → (ℕ → Bool) → Outcome → List ℕ → Bool
run_unmarks w marked o reads = not (is_cycle o) && not (some_marked w marked reads)

-- whether an evaluation that ends without a run does: the computed needn't run, doesn't hold `cycle`, and keeps no marked computed
abbrev pub stop_unmarks : Signals → Memos → (ℕ → Bool) → ℕ → Bool
stop_unmarks w k marked n = not (must_run k n []) && (not (holds_cycle k n) && not (some_marked w marked (source_names (sources_of k n))))

-- the marks after the evaluation of n, whose mark goes or stays
abbrev pub ended : (ℕ → Bool) → ℕ → Bool → ℕ → Bool
ended marked n unmarks m = if n == m then (if unmarks then false else marked m) else marked m

-- flags with another one at one name
abbrev pub with_flag : (ℕ → Bool) → ℕ → Bool → ℕ → Bool
with_flag f n b m = if n == m then b else f m

-- the dependants once n keeps these sources
abbrev pub relinked : (ℕ → ℕ → Bool) → ℕ → List ℕ → ℕ → ℕ → Bool
relinked dependants n reads m d = if n == d then is_in m reads else dependants m d

-- and once n is gone
abbrev pub unlinked : (ℕ → ℕ → Bool) → ℕ → ℕ → ℕ → Bool
unlinked dependants n m d = if n == d then false else dependants m d

-- the marks without those of some names
abbrev pub without_marks : (ℕ → Bool) → (ℕ → Bool) → ℕ → Bool
without_marks marked unmarked n = if unmarked n then false else marked n

-- ---- what is found by marks

-- whether a computed that must run is kept below n, by a search that passes over what is unmarked
abbrev pub due_by_marks : ℕ → Signals → Memos → (ℕ → Bool) → ℕ → Bool
due_by_marks zero w k marked n = false
due_by_marks (suc far) w k marked n = some_source (λ m. marked m && (is_due w k m || due_by_marks far w k marked m)) (sources_of k n)

-- the state of a computed: an unmarked one is clean, and for a marked one its memo and a search through marked sources decide
abbrev pub mark_by_marks : Signals → Memos → (ℕ → Bool) → ℕ → Mark
mark_by_marks w k marked n =
    if marked n then (if must_run k n [] then Dirty else (if due_by_marks (length w.computeds) w k marked n then Checked else Clean)) else Clean

-- Names whose marks a search may take: none is computing, must run or holds `cycle`, and each marked computed that one keeps is among them.
pub record IsSearched (w : Signals) (k : Memos) (marked computing unmarked : ℕ → Bool) : Type 0 where
  pub idle : (n : ℕ) → unmarked n ≡ true → computing n ≡ false
  pub calm : (n : ℕ) → is_computed (standing w n) ≡ true → unmarked n ≡ true → must_run k n [] ≡ false
  pub fine : (n : ℕ) → is_computed (standing w n) ≡ true → unmarked n ≡ true → holds_cycle k n ≡ false
  pub closed : (n m : ℕ) → is_computed (standing w n) ≡ true → unmarked n ≡ true → keeps k n m ≡ true → is_computed (standing w m) ≡ true →
      marked m ≡ true → unmarked m ≡ true

-- What a search from n went through: the marked computeds that n keeps, and those that each of them keeps; none of them must run.
pub record IsExplored (w : Signals) (k : Memos) (marked seen : ℕ → Bool) (n : ℕ) : Type 0 where
  pub here : (m : ℕ) → keeps k n m ≡ true → is_computed (standing w m) ≡ true → marked m ≡ true → seen m ≡ true
  pub calm : (m : ℕ) → is_computed (standing w m) ≡ true → seen m ≡ true → must_run k m [] ≡ false
  pub closed : (m p : ℕ) → is_computed (standing w m) ≡ true → seen m ≡ true → keeps k m p ≡ true → is_computed (standing w p) ≡ true →
      marked p ≡ true → seen p ≡ true
