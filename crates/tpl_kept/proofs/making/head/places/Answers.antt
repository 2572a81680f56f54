use Rattle.std.proofs.Common.{◌≡◌, length, ap, ◌∙◌, arith}
use Rattle.tpl_model.specs.KeptLines.Memos.{table_in}
use Rattle.tpl_kept.specs.Heads.{places_from}
use Rattle.tpl_kept.proofs.Made.Memos.{one_place}
use Rattle.tpl_kept.proofs.making.head.places.Goals as goal

pub loop-place-preserved : goal.loop-place-preserved
loop-place-preserved c =
    one_place (table_in c.args.outcome.now) c.loop-place.place c.loop-place.rows.items c.push.new.self.items c.in_ok-here.here c.loop-place.invariant
    c.in_ok-here.ensures c.in_ok-push.ensures.items

pub returns : goal.returns
returns c =
    let e : c.loop-place.place ≡ length (table_in c.args.outcome.now).rows = omega arith in
    c.loop-place.invariant ∙ ap (places_from (table_in c.args.outcome.now) 0) e
