use Rattle.std.proofs.Common.{length, refl, arith}
use Rattle.std.proofs.lemmas.Option.{slice_get_read}
use Rattle.tpl_hearing.proofs.Paired.{at_paired}
use Rattle.tpl_hearing.proofs.outcomes.pair_at.Goals as goal

pub returns : goal.returns
returns c =
    let ids = c.args.ids.now in
    let outcomes = c.args.outcomes.now in
    let low = c.requires.place in
    let within = c.requires.within in
    at_paired ids outcomes c.args.place c.index-ids-place.result c.index-outcomes-place.result
    (slice_get_read ids (length ids) c.args.place c.index-ids-place.result refl (omega (arith, low, within)) c.index-ids-place.is)
    (slice_get_read outcomes (length outcomes) c.args.place c.index-outcomes-place.result refl low c.index-outcomes-place.is)
