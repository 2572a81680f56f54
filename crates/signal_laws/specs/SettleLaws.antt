-- What settling keeps and reaches.
use Rattle.std.specs.Prelude.{◌≡◌, ℕ, true, List, [], ◌∷◌, ◌++◌, Some}
use Rattle.signal_model.specs.Recipes.{Hosts}
use Rattle.signal_model.specs.Signals.{Signals, Computed, IsComputed, is_in, standing}
use Rattle.signal_model.specs.Values.{value_of}
use Rattle.signal_model.specs.Memos.{Memos}
use Rattle.signal_model.specs.Settling.{Settled, settle_visits, settled}
use Rattle.signal_model.specs.Orders.{Visit, evaluation_order}
use Rattle.signal_model.specs.Marks.{Clean, mark_of}
use Rattle.signal_model.specs.Sound.{standing_outcome}
use Rattle.signal_model.specs.Kept.{AreKept}
use Rattle.signal_laws.specs.CleanLaws.{IsUpToDate}

-- settling keeps memos sound, and each signal its entry
abbrev pub SettleLaw : Type 0
SettleLaw = (hosts : Hosts) (w : Signals) (k : Memos) (asked : List ℕ) → AreKept hosts w k → AreKept hosts w (settled hosts w k asked).memos

-- after settling, each name that was asked for shows its value from scratch
abbrev pub AskedLaw : Type 0
AskedLaw = (hosts : Hosts) (w : Signals) (k : Memos) (asked : List ℕ) (n : ℕ) → AreKept hosts w k → is_in n asked ≡ true →
    standing_outcome w (settled hosts w k asked).memos n ≡ Some (value_of hosts w n [])

-- and each computed that was asked for has a memo, which is that from scratch
abbrev pub AskedMemoLaw : Type 0
AskedMemoLaw = (hosts : Hosts) (w : Signals) (k : Memos) (asked : List ℕ) (n : ℕ) (c : Computed) → AreKept hosts w k → is_in n asked ≡ true →
    standing w n ≡ IsComputed c → IsUpToDate hosts w (settled hosts w k asked).memos n c

-- settling the same names again runs nothing
abbrev pub AgainLaw : Type 0
AgainLaw = (hosts : Hosts) (w : Signals) (k : Memos) (asked : List ℕ) → AreKept hosts w k →
    settled hosts w (settled hosts w k asked).memos asked ≡ record { memos = (settled hosts w k asked).memos; runs = [] }

-- ---- one settling after another

-- what the second keeps, and the runs of both
abbrev pub followed_by : Settled → Settled → Settled
followed_by s t = record { memos = t.memos; runs = s.runs ++ t.runs }

-- two lists of names, settled one after the other, are settled as one list
abbrev pub SettleBothLaw : Type 0
SettleBothLaw = (hosts : Hosts) (w : Signals) (k : Memos) (asked others : List ℕ) → AreKept hosts w k →
    settled hosts w k (asked ++ others) ≡ followed_by (settled hosts w k asked) (settled hosts w (settled hosts w k asked).memos others)

-- so names may be settled one by one
abbrev pub SettleMoreLaw : Type 0
SettleMoreLaw = (hosts : Hosts) (w : Signals) (k : Memos) (asked : List ℕ) (n : ℕ) → AreKept hosts w k →
    settled hosts w k (asked ++ n ∷ []) ≡ followed_by (settled hosts w k asked) (settled hosts w (settled hosts w k asked).memos (n ∷ []))

-- ---- inside a settling

-- what is settled after the first visits of an evaluation
abbrev pub settled_first : Hosts → Signals → Memos → List Visit → Settled
settled_first hosts w k before = settle_visits hosts w before (record { memos = k; runs = [] })

-- at each moment of it what is kept is sound
abbrev pub KeptMomentsLaw : Type 0
KeptMomentsLaw = (hosts : Hosts) (w : Signals) (k : Memos) (asked : List ℕ) (before later : List Visit) → AreKept hosts w k →
    evaluation_order hosts w asked ≡ before ++ later → AreKept hosts w (settled_first hosts w k before).memos

-- and what was clean before it is clean
abbrev pub CleanMomentsLaw : Type 0
CleanMomentsLaw = (hosts : Hosts) (w : Signals) (k : Memos) (asked : List ℕ) (before later : List Visit) (n : ℕ) → AreKept hosts w k →
    evaluation_order hosts w asked ≡ before ++ later → mark_of w k n ≡ Clean → mark_of w (settled_first hosts w k before).memos n ≡ Clean
