use Rattle.std.proofs.Common.{sym, ap, ◌∙◌}
use Rattle.std.proofs.lemmas.List.{drop_all}
use Rattle.live_labels.proofs.Noted.{all_noted, noted_by}
use Rattle.live_labels.proofs.notes.note_events.Goals as goal

pub returns : goal.returns
returns c = λ ts h.
    let none = drop_all c.loop-event.event-index c.args.events.now c.loop-event-test.false in
    ap (λ es. noted_by es c.loop-event.recorder) (sym none)
    ∙ c.loop-event.invariant ∙ all_noted c.args.events.now ts c.args.recorder.now h
