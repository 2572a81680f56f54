-- What passing over comes to, and how often it counts.
use Rattle.std.specs.Prelude.{ℕ, zero, suc, ◌+◌, ◌≤◌, List, ◌++◌}
use Rattle.signal_model.specs.Recipes.{Hosts}
use Rattle.signal_model.specs.Signals.{Signals}
use Rattle.signal_model.specs.Memos.{Memos}
use Rattle.signal_model.specs.Settling.{settled}
use Rattle.signal_model.specs.Kept.{AreKept}
use Rattle.sig_computed.specs.StepLaws.{IsOver, IsSettled}
use Rattle.sig_computed.specs.Costs.{step_bound}
use Rattle.sig_computed.specs.Skips.{Counted, passing_begun, passing_step}

-- so many steps
abbrev pub passing_times : ℕ → Hosts → Signals → Counted → Counted
passing_times zero hosts w x = x
passing_times (suc turns) hosts w x = passing_times turns hosts w (passing_step hosts w x)

-- all is settled as settling defines it, within the bound
pub record IsPassed (hosts : Hosts) (w : Signals) (k : Memos) (asked : List ℕ) (x : Counted) : Type 0 where
  pub settled : IsSettled hosts w k asked x.underway
  pub counted : x.looked ≤ step_bound hosts w k asked

-- where the steps are over, what was asked for is settled, and no more was counted than the bound
abbrev pub PassingLaw : Type 0
PassingLaw = (hosts : Hosts) (w : Signals) (k : Memos) (asked : List ℕ) (turns : ℕ) → AreKept hosts w k →
    IsOver (passing_times turns hosts w (passing_begun k asked)).underway →
    IsPassed hosts w k asked (passing_times turns hosts w (passing_begun k asked))

-- Names that are settled one list after the other keep to the bound of the one list.
abbrev pub BoundBothLaw : Type 0
BoundBothLaw = (hosts : Hosts) (w : Signals) (k : Memos) (asked others : List ℕ) → AreKept hosts w k →
    step_bound hosts w k asked + step_bound hosts w (settled hosts w k asked).memos others ≤ step_bound hosts w k (asked ++ others)
