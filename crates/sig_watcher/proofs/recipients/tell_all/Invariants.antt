use Rattle.std.proofs.Common.{◌≡◌, ◌++◌, ◌+◌, ◌≤◌, ℕ, drop, length, map, take}
use Rattle.std.specs.Prelude.{vec_len, vec_capacity}
use Rattle.signal_model.specs.Kept.{OnlyComputedsKeep}
use Rattle.effect_model.specs.Acts.{is_notified_by_any, notified_by_any, waiting_if}
use Rattle.sig_watcher.specs.Numbers.{AreNumbered}
use Rattle.sig_watcher.specs.Notices.{told_entry}
use Rattle.sig_watcher.proofs.recipients.tell_all.Given as goal

abbrev pub invariant-loop-place : goal.invariant-loop-place
invariant-loop-place l = record {
  told : OnlyComputedsKeep l.graph.state.signals l.graph.state.memos →
      l.told.items ≡ l.initial.told.items ++ map told_entry (notified_by_any l.graph.state.signals l.graph.state.memos l.ids (take l.place l.initial.watchers.items));
  watchers : OnlyComputedsKeep l.graph.state.signals l.graph.state.memos →
      l.watchers.items ≡ map (waiting_if (is_notified_by_any l.graph.state.signals l.graph.state.memos l.ids)) (take l.place l.initial.watchers.items) ++ drop l.place l.initial.watchers.items;
  numbered : (made : ℕ) → AreNumbered l.initial.watchers.items made → AreNumbered l.watchers.items made;
  size : length l.watchers.items ≡ length l.initial.watchers.items;
  room : vec_len l.told + length l.initial.watchers.items ≤ vec_capacity l.told + l.place;
}
