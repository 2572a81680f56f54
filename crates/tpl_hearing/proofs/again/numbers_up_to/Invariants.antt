use Rattle.std.proofs.Common.{◌≡◌, ◌<◌, ◌≤◌, ℕ, Some, slice_get}
use Rattle.std.specs.List.{zip}
use Rattle.sig_base.specs.declared.value.Outcome.{Outcome}
use Rattle.tpl_hearing.specs.Unseen.{IsCellAs}
use Rattle.tpl_hearing.proofs.again.numbers_up_to.Given as goal

-- the names so far are those of cells that show what was heard
abbrev pub invariant-loop-place : goal.invariant-loop-place
invariant-loop-place l = record {
  low : l.from ≤ l.place;
  each : (i n : ℕ) (o : Outcome) → l.from ≤ i → i < l.place → slice_get (zip l.ids l.outcomes) i ≡ Some (n, o) →
      IsCellAs l.graph.state.signals n o;
}
