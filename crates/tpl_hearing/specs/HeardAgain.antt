-- Names that were heard at another time, heard again.
use Rattle.std.specs.Prelude.{◌≡◌, ℕ, ◌+◌, ◌<◌, ◌++◌, ◌∷◌, [], Bool, true, false, List, length, slice_get, take, Option, None, Some}
use Rattle.std.specs.List.{AllByRecursion}
use Rattle.std.specs.Map.{keys_of}
use Rattle.sig_base.specs.declared.value.Outcome.{Outcome}
use Rattle.signal_model.specs.Recipes.{Hosts}
use Rattle.signal_model.specs.Signals.{Signals}
use Rattle.signal_model.specs.Values.{value_of}
use Rattle.signal_model.specs.Memos.{Memos}
use Rattle.signal_model.specs.Settling.{settled}
use Rattle.signal_model.specs.Kept.{AreKept}
use Rattle.signal_laws.specs.ReadLaws.{firsts_after}
use Rattle.tpl_hearing.specs.Heard.{Comparisons, Outcomes, heard_of}
use Rattle.tpl_hearing.specs.declared.comparisons.Rehearing.{Rehearing}

-- a name has the outcome that it had before
pub record IsAsBefore (before now : Outcomes) (n : ℕ) : Type 0 where
  pub outcome : Outcome
  pub was : heard_of before n ≡ Some outcome
  pub is : heard_of now n ≡ Some outcome

-- so have these names
abbrev pub AreAsBefore : Outcomes → Outcomes → List ℕ → Type 0
AreAsBefore before now ns = AllByRecursion (IsAsBefore before now) ns

-- a name was heard, and where it is said to be the same, it has the outcome that it had before
pub record IsCompared (before now : Outcomes) (n : ℕ) (same : Bool) : Type 0 where
  pub outcome : Outcome
  pub is : heard_of now n ≡ Some outcome
  pub was : same ≡ true → heard_of before n ≡ Some outcome

-- so it is with each of some names
abbrev pub AllCompared : Outcomes → Outcomes → Comparisons → Type 0
AllCompared before now ps = AllByRecursion (λ (p : ℕ × Bool). IsCompared before now p.0 p.1) ps

-- so it is with each name of which this is known
abbrev pub AreCompared : Outcomes → Rehearing → Type 0
AreCompared before h = AllByRecursion (λ (p : ℕ × Bool). IsCompared before h.heard p.0 p.1) h.compared

-- what was heard, where it is not all that was heard before
abbrev pub heard_by : Option Rehearing → Outcomes → Outcomes
heard_by (Some h) before = h.heard
heard_by None before = before

-- names were heard, and each has the outcome of before
pub record AreSame (before : Outcomes) (ns : List ℕ) (earlier now : Outcomes) : Type 0 where
  pub same : AreAsBefore before now ns
  pub order : keys_of now ≡ firsts_after (keys_of earlier) ns

-- they were heard up to one that may have another outcome
pub record AreSameUpTo (before : Outcomes) (ns : List ℕ) (earlier now : Outcomes) : Type 0 where
  pub count : ℕ
  pub inside : count < length ns
  pub same : AreAsBefore before now (take count ns)
  pub order : keys_of now ≡ firsts_after (keys_of earlier) (take (count + 1) ns)

-- so they were heard as far as they are as before
abbrev pub AreHeardAgain : Bool → Outcomes → List ℕ → Outcomes → Outcomes → Type 0
AreHeardAgain true before ns earlier now = AreSame before ns earlier now
AreHeardAgain false before ns earlier now = AreSameUpTo before ns earlier now

-- all names that were heard before were heard again, up to one whose outcome may be another
pub record IsFront (before now : Outcomes) : Type 0 where
  pub count : ℕ
  pub name : ℕ
  pub was : Outcome
  pub outcome : Outcome
  pub at : slice_get before count ≡ Some (name, was)
  pub all : now ≡ take count before ++ (name, outcome) ∷ []

-- A signal shows an outcome as it stands: where what is kept is sound, settling the signal changes nothing, and this is its value.
pub record StandsAs (w : Signals) (k : Memos) (n : ℕ) (o : Outcome) : Type 0 where
  pub still : (hosts : Hosts) → AreKept hosts w k → settled hosts w k (n ∷ []) ≡ record { memos = k; runs = [] }
  pub value : (hosts : Hosts) → AreKept hosts w k → o ≡ value_of hosts w n []

-- A name that wasn't heard shows the outcome of before as it stands, and comes next.
pub record StandsNext (before : Outcomes) (w : Signals) (k : Memos) (n : ℕ) (earlier now : Outcomes) : Type 0 where
  pub outcome : Outcome
  pub was : heard_of before n ≡ Some outcome
  pub new : heard_of earlier n ≡ None
  pub stands : StandsAs w k n outcome
  pub all : now ≡ earlier ++ (n, outcome) ∷ []
