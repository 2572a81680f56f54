-- What is kept of the signals that stand, exactly.
use Rattle.std.specs.Prelude.{◌≡◌, ℕ, Bool, true, Some}
use Rattle.signal_model.specs.Recipes.{Hosts}
use Rattle.signal_model.specs.Signals.{Signals, Computed, IsComputed, is_computed, is_in, is_there, standing}
use Rattle.signal_model.specs.Memos.{Memo, Memos, entry_at, has_entry, memo_of, keeps}
use Rattle.signal_model.specs.Sound.{IsSound}

-- only a computed has a memo
abbrev pub OnlyComputedsKeep : Signals → Memos → Type 0
OnlyComputedsKeep w k = (n : ℕ) (m : Memo) → memo_of k n ≡ Some m → is_computed (standing w n) ≡ true

-- a name has an entry exactly where a signal stands under it, and only a computed has a memo
pub record HaveEntries (w : Signals) (k : Memos) : Type 0 where
  pub entries : (n : ℕ) → has_entry (entry_at n k.entries) ≡ is_there (standing w n)
  pub memos : OnlyComputedsKeep w k

-- memos that are sound, of the signals that stand and of no others
pub record AreKept (hosts : Hosts) (w : Signals) (k : Memos) : Type 0 where
  pub sound : IsSound hosts w k
  pub entries : HaveEntries w k

-- each name in use was given: that of each signal that stands, each slot of a recipe, and each kept source
pub record AreGiven (given : ℕ → Bool) (w : Signals) (k : Memos) : Type 0 where
  pub names : (n : ℕ) → is_there (standing w n) ≡ true → given n ≡ true
  pub slots : (n m : ℕ) (c : Computed) → standing w n ≡ IsComputed c → is_in m c.recipe.slots ≡ true → given m ≡ true
  pub sources : (n m : ℕ) → keeps k n m ≡ true → given m ≡ true

-- what was given stays given
abbrev pub StayGiven : (ℕ → Bool) → (ℕ → Bool) → Type 0
StayGiven before after = (n : ℕ) → before n ≡ true → after n ≡ true
