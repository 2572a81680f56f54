use Rattle.std.proofs.Common.{◌≡◌, ◌+◌, drop}
use Rattle.std.specs.List.{prefix_len}
use Rattle.sig_base.specs.Words.{in_tag}
use Rattle.page_ops.proofs.parts.front_length.Given as goal

abbrev pub invariant-loop-byte : goal.invariant-loop-byte
invariant-loop-byte l = record {
  count : l.count ≡ l.byte-index;
  rest : l.count + prefix_len in_tag (drop l.byte-index l.bytes) ≡ prefix_len in_tag l.bytes;
}
