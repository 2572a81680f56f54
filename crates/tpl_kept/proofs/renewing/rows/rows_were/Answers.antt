use Rattle.std.proofs.Common.{length, map, ap}
use Rattle.tpl_model.specs.KeptLines.Kept.{kept}
use Rattle.tpl_model.specs.KeptLines.Memos.{table_in}
use Rattle.tpl_kept.specs.Heads.{places_from}
use Rattle.tpl_kept.proofs.Renewals.Between.{nothing_among, nothing_serves}
use Rattle.tpl_kept.proofs.renewing.rows.rows_were.Goals as goal

pub returns-in_default-clause-serve : goal.returns-in_default-clause-serve
returns-in_default-clause-serve c = λ b links before s.
    let next = table_in c.args.next.now in
    nothing_serves b links before (places_from next 0 (length next.rows)) (map kept c.new.result.items) (ap (map kept) c.new.ensures.items)

pub returns-in_default-clause-among : goal.returns-in_default-clause-among
returns-in_default-clause-among c =
    let next = table_in c.args.next.now in
    nothing_among (table_in c.args.was.now) (places_from next 0 (length next.rows)) (map kept c.new.result.items) (ap (map kept) c.new.ensures.items)
