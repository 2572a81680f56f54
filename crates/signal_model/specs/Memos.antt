-- What is kept of earlier evaluations, and when a computed must run.
use Rattle.std.specs.Prelude.{ℕ, ◌==◌, ◌||◌, not, Bool, true, false, List, [], ◌∷◌, map, Option, Some, None, if◌then◌else◌}
use Rattle.sig_base.specs.declared.value.Fault.TheVariants.{Cycle}
use Rattle.sig_base.specs.declared.value.Outcome.{Outcome}
use Rattle.sig_base.specs.declared.value.Outcome.TheVariants.{Bad}
use Rattle.signal_model.specs.Signals.{found, is_in}

-- a source that was read, with its change number at that time, none for gone
pub record Source : Type 0 where
  pub name : ℕ
  pub number : Option ℕ

-- what a run leaves: its outcome, its sources in order, the generation at that time, and whether the computed was rewired since
pub record Memo : Type 0 where
  pub outcome : Outcome
  pub sources : List Source
  pub generation : ℕ
  pub rewired : Bool

-- a signal's change number, and a computed's memo where it has run
pub record Entry : Type 0 where
  pub name : ℕ
  pub number : ℕ
  pub memo : Option Memo

-- the number of accepted changes so far, and an entry for each signal that stands
pub record Memos : Type 0 where
  pub generation : ℕ
  pub entries : List Entry

-- the entry of a name
abbrev pub entry_at : ℕ → List Entry → Option Entry
entry_at n es = found (λ (e : Entry). e.name) n es

-- whether there is an entry
abbrev pub has_entry : Option Entry → Bool
has_entry None = false
has_entry (Some e) = true

-- the number of an entry, where there is one
abbrev pub number_in : Option Entry → Option ℕ
number_in None = None
number_in (Some e) = Some e.number

-- its memo, where it has one
abbrev pub memo_in : Option Entry → Option Memo
memo_in None = None
memo_in (Some e) = e.memo

-- the present change number, none where the signal is gone
abbrev pub number_of : Memos → ℕ → Option ℕ
number_of k n = number_in (entry_at n k.entries)

-- what is kept of a computed, where it has run
abbrev pub memo_of : Memos → ℕ → Option Memo
memo_of k n = memo_in (entry_at n k.entries)

-- the sources of a memo
abbrev pub sources_in : Option Memo → List Source
sources_in None = []
sources_in (Some m) = m.sources

-- the sources that a computed keeps
abbrev pub sources_of : Memos → ℕ → List Source
sources_of k n = sources_in (memo_of k n)

-- the names of sources
abbrev pub source_names : List Source → List ℕ
source_names ss = map (λ (s : Source). s.name) ss

-- whether a computed keeps a source
abbrev pub keeps : Memos → ℕ → ℕ → Bool
keeps k n m = is_in m (source_names (sources_of k n))

-- a source with its present number
abbrev pub named_now : Memos → ℕ → Source
named_now k n = record { name = n; number = number_of k n }

-- gone is the same as gone, and as no number
abbrev pub same_number : Option ℕ → Option ℕ → Bool
same_number None None = true
same_number (Some a) (Some b) = a == b
same_number _ _ = false

-- whether it is the fault `cycle`
abbrev pub is_cycle : Outcome → Bool
is_cycle (Bad Cycle) = true
is_cycle _ = false

-- whether a memo has the outcome `cycle`
abbrev pub memo_is_cycle : Option Memo → Bool
memo_is_cycle None = false
memo_is_cycle (Some m) = is_cycle m.outcome

-- whether a computed holds `cycle`
abbrev pub holds_cycle : Memos → ℕ → Bool
holds_cycle k n = memo_is_cycle (memo_of k n)

-- the source has another number than the one that was read
abbrev pub differs : Memos → Source → Bool
differs k s = not (same_number (number_of k s.name) s.number)

-- the source has changed, or is being evaluated
abbrev pub is_moved : Memos → List ℕ → Source → Bool
is_moved k path s = differs k s || is_in s.name path

-- one of the sources has
abbrev pub some_moved : Memos → List ℕ → List Source → Bool
some_moved k path [] = false
some_moved k path (s ∷ ss) = is_moved k path s || some_moved k path ss

-- whether a memo doesn't serve, whatever its sources are: there is none, it is `cycle` of an earlier generation, or of an earlier recipe
abbrev pub is_stale_by : Memos → Option Memo → Bool
is_stale_by k None = true
is_stale_by k (Some m) = if is_cycle m.outcome then not (m.generation == k.generation) else m.rewired

-- whether what is kept of a computed doesn't serve, whatever its sources are
abbrev pub is_stale : Memos → ℕ → Bool
is_stale k n = is_stale_by k (memo_of k n)

-- whether a memo doesn't serve: `cycle` for the generation, and any other outcome for the recipe and its sources
abbrev pub must_run_by : Memos → Option Memo → List ℕ → Bool
must_run_by k None path = true
must_run_by k (Some m) path = if is_cycle m.outcome then not (m.generation == k.generation) else (m.rewired || some_moved k path m.sources)

-- A computed must run where it never did; where it holds `cycle`, once the generation has moved; otherwise where it was rewired, or a
-- source that it keeps has changed or is being evaluated.
abbrev pub must_run : Memos → ℕ → List ℕ → Bool
must_run k n path = must_run_by k (memo_of k n) path
