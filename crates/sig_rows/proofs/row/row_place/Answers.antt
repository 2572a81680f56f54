use Rattle.sig_rows.specs.Edits.{has_key}
use Rattle.sig_rows.proofs.Keys.{first_found}
use Rattle.sig_rows.proofs.row.row_place.Goals as goal

pub returns : goal.returns
returns c = first_found (has_key c.args.key.now) c.args.rows.now c.first_row-found.result c.first_row-found.ensures
