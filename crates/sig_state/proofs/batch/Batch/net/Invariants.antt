use Rattle.std.proofs.Common.{◌≡◌, ◌++◌, ◌+◌, ◌≤◌, length, map, take}
use Rattle.std.specs.Prelude.{vec_len, vec_capacity}
use Rattle.effect_model.specs.Batches.{net_of}
use Rattle.sig_state.proofs.batch.Batch.net.Given as goal

abbrev pub invariant-loop-place : goal.invariant-loop-place
invariant-loop-place g l = record {
  items : l.out.items ≡ l.initial.out.items ++ net_of (map (λ r. r.slack) l.rules) l.graph.state.signals (take l.place l.self.changed);
  room : vec_len l.out + length l.self.changed ≤ vec_capacity l.out + l.place;
}
