use Rattle.std.proofs.Common.{◌≡◌, true, false, refl, sym, ◌∙◌}
use Rattle.live_labels.proofs.Told.{good_nobody}
use Rattle.live_labels.proofs.names.nobody.Goals as goal

pub unreachable-requires : goal.unreachable-requires
unreachable-requires c =
    let bad = c.in-Err-Bad.ensures.bad (rw c.in-Err-Bad.field-0-is refl) in
    let q : true ≡ false = sym good_nobody ∙ bad in
    cc
