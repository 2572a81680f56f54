use Rattle.std.proofs.Common.{drop, map}
use Rattle.std.specs.List.{AllByRecursion}
use Rattle.wire_model.specs.Following.{follow}
use Rattle.page_wire.specs.Views.{note_of}
use Rattle.page_follow.specs.Views.{IsDoable}
use Rattle.page_follow.proofs.Followed.{GoesLike}
use Rattle.page_follow.proofs.follower.Follower.take_notes.Given as goal

-- what the notes behind those so far do is what all do
abbrev pub invariant-loop-note : goal.invariant-loop-note
invariant-loop-note l = record {
  alike : GoesLike l.fn.out.items l.out.items (follow (map note_of l.notes) l.fn.self) (follow (map note_of (drop l.note-index l.notes)) l.self);
  doable : AllByRecursion IsDoable (map note_of (drop l.note-index l.notes));
}
