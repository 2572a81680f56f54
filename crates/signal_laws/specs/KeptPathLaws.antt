-- Ways along kept sources.
use Rattle.std.specs.Prelude.{◌≡◌, ℕ, true, false, List, [], ◌∷◌, Some, ◌⊎◌}
use Rattle.signal_model.specs.Recipes.{Hosts}
use Rattle.signal_model.specs.Signals.{Signals, Computed, IsComputed, is_in, standing}
use Rattle.signal_model.specs.Memos.{Memo, Memos, memo_of, source_names, keeps, is_cycle, holds_cycle, must_run}
use Rattle.signal_model.specs.Sound.{IsKeptPath, IsSound}

-- a computed keeps a source
pub record HasSource (w : Signals) (k : Memos) (p n : ℕ) : Type 0 where
  pub computed : Computed
  pub stands : standing w p ≡ IsComputed computed
  pub kept : keeps k p n ≡ true

-- each member of the path, the innermost first, has the one before it as a source, and the innermost has n
abbrev pub IsSourcePath : Signals → Memos → ℕ → List ℕ → Type 0
IsSourcePath w k n [] = Unit {0}
IsSourcePath w k n (p ∷ ps) = HasSource w k p n × IsSourcePath w k p ps

-- a member of a path that must run or holds `cycle`
pub record IsBroken (k : Memos) (path : List ℕ) : Type 0 where
  pub name : ℕ
  pub on : is_in name path ≡ true
  pub why : (must_run k name [] ≡ true) ⊎ (holds_cycle k name ≡ true)

-- where kept sources lead back to a member of the path, some member must run or holds `cycle`
abbrev pub KeptCycleLaw : Type 0
KeptCycleLaw = (hosts : Hosts) (w : Signals) (k : Memos) (n : ℕ) (path : List ℕ) → IsSound hosts w k → IsSourcePath w k n path →
    is_in n path ≡ true → IsBroken k path

-- what is come to along computeds that neither must run nor hold `cycle` isn't among them
abbrev pub KeptPathLaw : Type 0
KeptPathLaw = (hosts : Hosts) (w : Signals) (k : Memos) (n : ℕ) (path : List ℕ) → IsSound hosts w k → IsKeptPath w k n path → is_in n path ≡ false

-- where a kept source is being evaluated, its keeper must run, unless it holds `cycle`
abbrev pub EvaluatedSourceLaw : Type 0
EvaluatedSourceLaw = (k : Memos) (n m : ℕ) (path : List ℕ) (memo : Memo) → memo_of k n ≡ Some memo → is_cycle memo.outcome ≡ false →
    is_in m (source_names memo.sources) ≡ true → is_in m path ≡ true → must_run k n path ≡ true
