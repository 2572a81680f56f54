use Rattle.std.proofs.Common.{◌≡◌, ◌+◌, length}
use Rattle.page_rows.proofs.frames.a_stream_is_read_byte_by_byte.Given as goal

-- what came stands in whole frames or in the one that isn't
abbrev pub invariant-loop-byte : goal.invariant-loop-byte
invariant-loop-byte g l = l.decoder.at + length l.decoder.rest ≡ l.byte-index
