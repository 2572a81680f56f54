use Rattle.std.proofs.Common.{◌≡◌, take}
use Rattle.sig_owner.specs.Tables.{all_ended, owner_count, rows_of}
use Rattle.sig_owner.proofs.holder.end_each.Given as goal

abbrev pub invariant-loop-id : goal.invariant-loop-id
invariant-loop-id l = record {
  rows : rows_of l.holders.entries ≡ all_ended (take l.id-index l.ended) (rows_of l.fn.holders.entries);
  count : l.owners ≡ owner_count (rows_of l.holders.entries);
}
