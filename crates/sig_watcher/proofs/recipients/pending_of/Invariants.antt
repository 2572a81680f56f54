use Rattle.std.proofs.Common.{◌≡◌, take}
use Rattle.effect_model.specs.Watchers.{pending_of}
use Rattle.sig_watcher.proofs.recipients.pending_of.Given as goal

abbrev pub invariant-loop-id : goal.invariant-loop-id
invariant-loop-id l = record {
  pending : l.pending.items ≡ pending_of l.fn.graph.state.signals l.fn.graph.state.memos (take l.id-index l.ids);
  same : l.graph ≡ l.fn.graph;
}
