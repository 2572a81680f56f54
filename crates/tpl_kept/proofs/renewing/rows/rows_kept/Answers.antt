use Rattle.std.proofs.Common.{length, map, ap}
use Rattle.tpl_model.specs.KeptLines.Kept.{kept}
use Rattle.tpl_kept.specs.Heads.{places_from}
use Rattle.tpl_kept.proofs.Renewals.Between.{nothing_among, nothing_serves}
use Rattle.tpl_kept.proofs.renewing.rows.rows_kept.Goals as goal

pub returns-then-len-clause-serve : goal.returns-then-len-clause-serve
returns-then-len-clause-serve c = λ b links before s.
    nothing_serves b links before (places_from c.args.rows.now 0 (length c.args.rows.now.rows)) (map kept c.new.result.items) (ap (map kept) c.new.ensures.items)

pub returns-then-len-clause-among : goal.returns-then-len-clause-among
returns-then-len-clause-among c =
    nothing_among c.args.was.now (places_from c.args.rows.now 0 (length c.args.rows.now.rows)) (map kept c.new.result.items) (ap (map kept) c.new.ensures.items)

pub returns-clause-serve : goal.returns-clause-serve
returns-clause-serve c = (c.in_ok-found.ensures (map kept c.args.memos.items) c.rows_stand-front.ensures.stand).0

pub returns-clause-among : goal.returns-clause-among
returns-clause-among c = (c.in_ok-found.ensures (map kept c.args.memos.items) c.rows_stand-front.ensures.stand).1
