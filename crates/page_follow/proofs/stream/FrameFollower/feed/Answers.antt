use Rattle.std.proofs.Common.{ap, map, sym, ◌∙◌}
use Rattle.page_wire.specs.Views.{note_of}
use Rattle.page_follow.specs.Following.{Streaming}
use Rattle.page_follow.proofs.Fed.{falls_by, own_error, passes_by, stops_by, whichever}
use Rattle.page_follow.proofs.Followed.{new_doable}
use Rattle.page_follow.proofs.stream.FrameFollower.feed.Goals as goal

pub take_notes-requires : goal.take_notes-requires
take_notes-requires c =
    let g = c.in-Ok.ensures.notes in
    rw c.deref.ensures.value (new_doable _ _ g.notes (ap (map note_of) c.new-notes.ensures.items) g.told g.spelt.each)

pub take_last-requires : goal.take_last-requires
take_last-requires c =
    let going = ap (λ (s : Streaming). s.decoding.stopped) c.self.view_is ∙ c.requires.going in
    let s = (rw c.in-Err-Bad.field-0-is at (c.in-Err-Bad.ensures.bad going)).1 in
    rw c.deref-in-Err-Bad.ensures.value (new_doable _ _ s.notes (ap (map note_of) c.new-notes.ensures.items) s.told s.spelt.each)

pub returns-in-Ok-clause-passes : goal.returns-in-Ok-clause-passes
returns-in-Ok-clause-passes c =
    rw (sym c.self.view_is)
    (passes_by c.take_notes.result _ _ _ _ _ _ _ _ _ (ap (map note_of) c.new-notes.ensures.items) c.in-Ok.ensures.notes (rw c.deref.ensures.value at c.take_notes.ensures))

pub returns-in-Ok-clause-count : goal.returns-in-Ok-clause-count
returns-in-Ok-clause-count c = rw (sym c.self.view_is) (whichever c.take_notes.result c.in-Ok.ensures.count)

pub returns-in-Ok-clause-falls : goal.returns-in-Ok-clause-falls
returns-in-Ok-clause-falls c =
    rw (sym c.self.view_is)
    (falls_by c.take_notes.result _ _ _ _ _ _ _ _ _ (ap (map note_of) c.new-notes.ensures.items) c.in-Ok.ensures.notes (rw c.deref.ensures.value at c.take_notes.ensures))

pub returns-in-Err-Bad-clause-falls : goal.returns-in-Err-Bad-clause-falls
returns-in-Err-Bad-clause-falls c = λ is.
    let going = ap (λ (s : Streaming). s.decoding.stopped) c.self.view_is ∙ c.requires.going in
    let stops = (rw c.in-Err-Bad.field-0-is at (c.in-Err-Bad.ensures.bad going)).1 in
    let printed = rw c.deref-in-Err-Bad.ensures.value at c.take_last.ensures in
    rw (sym c.self.view_is) (stops_by _ _ _ _ _ _ _ _ (ap (map note_of) c.new-notes.ensures.items) stops (printed (own_error _ _ is)))
