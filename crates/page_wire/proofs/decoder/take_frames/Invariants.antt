use Rattle.std.proofs.Common.{length, map}
use Rattle.page_wire.specs.Decoding.{Took}
use Rattle.page_wire.specs.Views.{note_of}
use Rattle.page_wire.proofs.decoder.take_frames.Given as goal

abbrev pub invariant-loop-body : goal.invariant-loop-body
invariant-loop-body l = Took l.bytes (map note_of l.fn.notes.items) (map note_of l.notes.items) l.left

abbrev pub decreases-loop-body : goal.decreases-loop-body
decreases-loop-body l = length l.left
