use Rattle.row_edits.proofs.Allowed.{allowed}
use Rattle.row_edits.proofs.edits.edited.Goals as goal

pub inserted-requires : goal.inserted-requires
inserted-requires c = rw c.as_slice.ensures (rw c.in-Insert.is at (allowed c.args.edit.now c.args.rows.now c.requires))

pub removed-requires : goal.removed-requires
removed-requires c = rw c.in-Remove.is at (allowed c.args.edit.now c.args.rows.now c.requires)

pub moved-requires : goal.moved-requires
moved-requires c = rw c.in-Move.is at (allowed c.args.edit.now c.args.rows.now c.requires)

pub field_put-requires : goal.field_put-requires
field_put-requires c = rw c.in-Put.is at (allowed c.args.edit.now c.args.rows.now c.requires)

-- a new value stands in its field
pub returns-in_ok-now-in-Put : goal.returns-in_ok-now-in-Put
returns-in_ok-now-in-Put c = rw c.in-Put.is c.in_ok-now-in-Put.ensures
