-- Cells that may show something else than when names were heard, and names that show what was heard of them.
use Rattle.std.specs.Prelude.{◌≡◌, ◌<◌, ◌≤◌, ℕ, Bool, true, false, List, length, slice_get, Option, None, Some}
use Rattle.sig_base.specs.declared.value.Outcome.{Outcome}
use Rattle.sig_base.specs.declared.value.Outcome.TheVariants.{Good}
use Rattle.signal_model.specs.Signals.{Cell, IsCell, Signals, is_in, standing}
use Rattle.tpl_hearing.specs.Heard.{Outcomes}

-- whether a name may show something else: one of these, or each where it isn't known which
abbrev pub may_differ : Option (List ℕ) → ℕ → Bool
may_differ None n = true
may_differ (Some ns) n = is_in n ns

-- a cell stands there, and this is what it shows
pub record IsCellAs (w : Signals) (n : ℕ) (o : Outcome) : Type 0 where
  pub cell : Cell
  pub stands : standing w n ≡ IsCell cell
  pub shows : o ≡ Good cell.value

-- from one place up to another each name is that of a cell which shows what was heard
pub record AreCellsBetween (w : Signals) (heard : Outcomes) (from to : ℕ) : Type 0 where
  pub least : from ≤ to
  pub most : to ≤ length heard
  pub each : (i n : ℕ) (o : Outcome) → from ≤ i → i < to → slice_get heard i ≡ Some (n, o) → IsCellAs w n o

-- each name is, but for those that may show something else
pub record AreCellsBut (w : Signals) (u : Option (List ℕ)) (heard : Outcomes) : Type 0 where
  pub each : (i n : ℕ) (o : Outcome) → slice_get heard i ≡ Some (n, o) → may_differ u n ≡ false → IsCellAs w n o

-- no name that was heard may show something else
abbrev pub NoneDiffers : Option (List ℕ) → Outcomes → Type 0
NoneDiffers u heard = (i n : ℕ) (o : Outcome) → slice_get heard i ≡ Some (n, o) → may_differ u n ≡ false
