-- Whom changes that are told together notify, with no search in sight.
use Rattle.std.specs.Prelude.{◌≡◌, ℕ, true, List, [], ◌∷◌, ◌⊎◌}
use Rattle.signal_model.specs.Signals.{Signals, is_in}
use Rattle.signal_model.specs.Memos.{Memos}
use Rattle.signal_model.specs.Marks.{HasBelow}
use Rattle.signal_model.specs.Kept.{OnlyComputedsKeep}
use Rattle.effect_model.specs.Worlds.{Watcher}
use Rattle.effect_model.specs.Acts.{is_notified_by_any}

-- a signal is one of these, or has one of them in the closure of its kept sources
abbrev pub IsReached : Memos → List ℕ → ℕ → Type 0
IsReached k ns m = (is_in m ns ≡ true) ⊎ HasBelow (λ p. is_in p ns) k m

-- some signal does
abbrev pub SomeReached : Memos → List ℕ → List ℕ → Type 0
SomeReached k ns [] = ⊥
SomeReached k ns (m ∷ ms) = IsReached k ns m ⊎ SomeReached k ns ms

-- a watcher is watching, and one of its signals does
pub record IsNotified (k : Memos) (ns : List ℕ) (x : Watcher) : Type 0 where
  pub watching : x.watching ≡ true
  pub reached : SomeReached k ns x.signals

-- changes of signals that are told together notify exactly these
abbrev pub NotifiedLaw : Type 0
NotifiedLaw = (w : Signals) (k : Memos) (ns : List ℕ) (x : Watcher) → OnlyComputedsKeep w k →
    (is_notified_by_any w k ns x ≡ true → IsNotified k ns x) × (IsNotified k ns x → is_notified_by_any w k ns x ≡ true)
