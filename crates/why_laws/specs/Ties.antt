-- How a journal and the memos tell the same.
use Rattle.std.specs.Prelude.{◌≡◌, ℕ, Bool, true, false, List, [], ◌∷◌, nat_lt, Option, Some, None, ◌⊎◌}
use Rattle.std.specs.List.{AllByRecursion}
use Rattle.signal_model.specs.Signals.{is_in}
use Rattle.signal_model.specs.Memos.{Source, Memo, Memos, entry_at, has_entry, memo_of, source_names, is_cycle, differs}
use Rattle.why_model.specs.declared.causes.Cause.{Cause}
use Rattle.why_model.specs.declared.causes.Cause.TheVariants as cause
use Rattle.why_model.specs.Facts.{Fact, Found, last_run, last_number, moves, rewires}

-- ---- The facts are those so far, the last one first.

-- some fact that passes comes after the one of a number
abbrev pub comes_after : ℕ → (Fact → List Fact → Bool) → List Fact → Bool
comes_after number test facts = nat_lt number (last_number test facts)

-- A memo is that of a run. It was rewired since exactly where facts say so, and unless it is `cycle`, each of its sources has another number
-- than the one that was read exactly where a fact has moved it since.
pub record IsOf (k : Memos) (facts : List Fact) (n : ℕ) (m : Memo) (p : Found) : Type 0 where
  pub outcome : p.note.outcome ≡ m.outcome
  pub reads : p.note.reads ≡ source_names m.sources
  pub rewired : comes_after p.number (rewires n) facts ≡ m.rewired
  pub moved : is_cycle m.outcome ≡ false → AllByRecursion (λ (s : Source). comes_after p.number (moves s.name) facts ≡ differs k s) m.sources

-- a computed has never run, or its memo is that of its last run
abbrev pub IsTied : Memos → List Fact → ℕ → Option Memo → Option Found → Type 0
IsTied k facts n None None = Unit {0}
IsTied k facts n (Some m) (Some p) = IsOf k facts n m p
IsTied _ _ _ _ _ = ⊥

-- So it is of each signal that stands. No name that wasn't given has run.
pub record AreTied (given : ℕ → Bool) (k : Memos) (facts : List Fact) : Type 0 where
  pub tied : (n : ℕ) → has_entry (entry_at n k.entries) ≡ true → IsTied k facts n (memo_of k n) (last_run n facts)
  pub new : (n : ℕ) → given n ≡ false → last_run n facts ≡ None

-- ---- why a computed must run, by the memos

-- a name is that of the first source with another number than the one that was read
abbrev pub IsFirstMoved : Memos → ℕ → List Source → Type 0
IsFirstMoved k n [] = ⊥
IsFirstMoved k n (s ∷ ss) = ((differs k s ≡ true) × (n ≡ s.name)) ⊎ ((differs k s ≡ false) × IsFirstMoved k n ss)

-- no source has another number
abbrev pub NoneMoved : Memos → List Source → Type 0
NoneMoved k ss = AllByRecursion (λ (s : Source). differs k s ≡ false) ss

-- a source that is being evaluated
pub record IsMet (path : List ℕ) (ss : List Source) : Type 0 where
  pub name : ℕ
  pub source : is_in name (source_names ss) ≡ true
  pub evaluated : is_in name path ≡ true

-- A cause is that for which a computed with this memo must run, where these are being evaluated: it has none; it holds `cycle`; it was rewired;
-- the first source that has moved is this; or none has, and one is being evaluated.
abbrev pub IsWhy : Memos → List ℕ → Option Memo → Cause → Type 0
IsWhy k path None cause.First = Unit {0}
IsWhy k path (Some m) cause.Cycle = is_cycle m.outcome ≡ true
IsWhy k path (Some m) (cause.Rewired f) = (is_cycle m.outcome ≡ false) × (m.rewired ≡ true)
IsWhy k path (Some m) (cause.Changed n f) = (is_cycle m.outcome ≡ false) × (m.rewired ≡ false) × IsFirstMoved k n m.sources
IsWhy k path (Some m) cause.Evaluating = (is_cycle m.outcome ≡ false) × (m.rewired ≡ false) × NoneMoved k m.sources × IsMet path m.sources
IsWhy _ _ _ _ = ⊥
