use Rattle.std.proofs.Common.{◌≡◌, ◌+◌, ◌≤◌, ◌<◌, ◌^◌, ◌++◌, length}
use Rattle.std.specs.Prelude.{vec_len, vec_capacity}
use Rattle.sig_state.specs.Batches.{all_given_back, with_returns}
use Rattle.sig_state.proofs.batch.Batch.abort.Given as goal

abbrev pub invariant-loop-id : goal.invariant-loop-id
invariant-loop-id l = record {
  state : with_returns l.id-iterator l.graph.state ≡ with_returns l.initial.id-iterator l.initial.graph.state;
  items : l.out.items ++ all_given_back l.id-iterator l.graph.state ≡ l.initial.out.items ++ all_given_back l.initial.id-iterator l.initial.graph.state;
  given : l.graph.given ≡ l.initial.graph.given;
  worn : l.graph.state.worn + length l.id-iterator < 2 ^ 127 + 2 ^ 63;
  room : vec_len l.out + length l.id-iterator ≤ vec_capacity l.out;
}
