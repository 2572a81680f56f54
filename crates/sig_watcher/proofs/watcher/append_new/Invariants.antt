use Rattle.std.proofs.Common.{◌≡◌, ◌+◌, ◌≤◌, drop, length}
use Rattle.std.specs.Prelude.{vec_len, vec_capacity}
use Rattle.effect_model.specs.Commands.{also_watched}
use Rattle.sig_watcher.proofs.watcher.append_new.Given as goal

abbrev pub invariant-loop-id : goal.invariant-loop-id
invariant-loop-id l = record {
  whole : also_watched l.held.items (drop l.id-index l.ids) ≡ also_watched l.initial.held.items l.ids;
  room : vec_len l.held + length l.ids ≤ vec_capacity l.held + l.id-index;
}
