-- What a clean computed promises.
use Rattle.std.specs.Prelude.{◌≡◌, ℕ, List, [], ◌∷◌, Some}
use Rattle.signal_model.specs.Recipes.{Hosts}
use Rattle.signal_model.specs.Signals.{Signals, Computed, IsComputed, standing}
use Rattle.signal_model.specs.Values.{value_of, reads_of}
use Rattle.signal_model.specs.Orders.{Visit, visit}
use Rattle.signal_model.specs.Memos.{Memo, Memos, memo_of, source_names}
use Rattle.signal_model.specs.Settling.{Settled, settle_visits, settled}
use Rattle.signal_model.specs.Marks.{Clean, mark_of}
use Rattle.signal_model.specs.Sound.{names_of, IsSound}
use Rattle.signal_model.specs.Laws.{IsChain}

-- a computed has a memo, with the outcome and the names of the sources from scratch
pub record IsUpToDate (hosts : Hosts) (w : Signals) (k : Memos) (n : ℕ) (c : Computed) : Type 0 where
  pub memo : Memo
  pub at : memo_of k n ≡ Some memo
  pub outcome : memo.outcome ≡ value_of hosts w n []
  pub names : source_names memo.sources ≡ names_of (reads_of hosts w c)

-- where a clean computed is asked for, nothing runs, and what is kept of it is that from scratch
abbrev pub CleanLaw : Type 0
CleanLaw = (hosts : Hosts) (w : Signals) (k : Memos) (n : ℕ) (c : Computed) → IsSound hosts w k → standing w n ≡ IsComputed c →
    mark_of w k n ≡ Clean → (settled hosts w k (n ∷ []) ≡ record { memos = k; runs = [] }) × IsUpToDate hosts w k n c

-- Inside a settling, after any visits: where a computed that is clean by now is come to along a path of reads, its visit runs nothing, not
-- even far below.
abbrev pub PassLaw : Type 0
PassLaw = (hosts : Hosts) (w : Signals) (start : Settled) (done : List Visit) (n : ℕ) (path : List ℕ) →
    IsSound hosts w (settle_visits hosts w done start).memos → mark_of w (settle_visits hosts w done start).memos n ≡ Clean →
    IsChain hosts w n path →
    settle_visits hosts w (visit hosts w path n done) start ≡ settle_visits hosts w done start
