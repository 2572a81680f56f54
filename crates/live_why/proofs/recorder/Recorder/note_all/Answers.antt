use Rattle.std.proofs.Common.{map, sym, ap, ◌∙◌}
use Rattle.std.proofs.lemmas.List.{drop_all}
use Rattle.why_model.specs.Facts.{has_run}
use Rattle.why_model.specs.Records.{with_facts}
use Rattle.live_why.specs.Views.{note_of}
use Rattle.live_why.proofs.recorder.Recorder.note_all.Goals as goal

pub returns : goal.returns
returns c =
    let none = drop_all c.loop-run.run-index c.args.runs.now c.loop-run-test.false in
    ap (λ rs. with_facts (map has_run (map note_of rs)) c.loop-run.self) (sym none) ∙ c.loop-run.invariant
