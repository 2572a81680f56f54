use Rattle.std.proofs.Common.{length, ap}
use Rattle.tpl_kept.specs.Listed.{listed}
use Rattle.tpl_kept.proofs.Renewals.Tables.{table_split}
use Rattle.tpl_kept.proofs.renewing.places.row_of.Goals as goal

pub returns-in_ok-rows-in-Table : goal.returns-in_ok-rows-in-Table
returns-in_ok-rows-in-Table c =
    table_split (listed c.args.places) c.in-Table.rows.now c.in_ok-rows-in-Table.rows c.args.at (length c.in-Table.rows.now.rows) (ap listed c.in-Table.is)
    c.requires c.in_ok-rows-in-Table.ensures
