use Rattle.std.proofs.Common.{refl}
use Rattle.live_items.proofs.Refused.{told_whole}
use Rattle.live_items.proofs.live.Live.do_command.Goals as goal

pub returns-clause-step : goal.returns-clause-step
returns-clause-step g c = λ hosts all sound.
    let s = c.in_ok-entries.ensures.step hosts all sound in
    let t = s.0 in (told_whole _ c.in_ok-entries.entries.items t.all _ (t.told.whole refl) t.is, s.1, s.2)
