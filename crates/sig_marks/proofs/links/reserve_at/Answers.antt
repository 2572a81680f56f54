use Rattle.std.proofs.Common.{◌<◌, sym, ap, ◌∙◌, subst, arith}
use Rattle.std.specs.Prelude.{slice_set}
use Rattle.sig_marks.specs.Sets.{spare_at}
use Rattle.sig_marks.proofs.LinkedSets.{gap_spare, makes_none, roomier, spare_here, OnOk-map}
use Rattle.sig_marks.proofs.links.reserve_at.Goals as goal

pub returns-then-not-stands_in-clause-ok : goal.returns-then-not-stands_in-clause-ok
returns-then-not-stands_in-clause-ok c =
    subst (λ z. 0 < spare_at c.args.sets.now.entries c.args.reader z) c.number-id.ensures (gap_spare c.args.sets.now.entries c.number-id.result c.args.reader (sym c.stands_in.ensures ∙ c.if-not-stands_in.true))

pub returns-then-not-stands_in-clause-makes : goal.returns-then-not-stands_in-clause-makes
returns-then-not-stands_in-clause-makes c = makes_none c.args.sets.now.entries c.args.reader

pub returns-clause-ok : goal.returns-clause-ok
returns-clause-ok c =
    let ss = c.args.sets.now.entries in
    let n = c.number-id.result in
    let e = ap (spare_at (slice_set ss n _) c.args.reader) (sym c.number-id.ensures) ∙ spare_here ss n c.args.reader c.reserve.new.self c.value_mut-readers.result.now c.value_mut-readers.ensures.value in
    OnOk-map c.reserve.result (λ h. omega (arith, e, h)) c.reserve.ensures.ok

pub returns-clause-makes : goal.returns-clause-makes
returns-clause-makes c = roomier c.args.sets.now.entries c.number-id.result c.args.reader c.reserve.new.self c.value_mut-readers.result.now c.value_mut-readers.ensures.value c.reserve.ensures.keys c.reserve.ensures.room
