use Rattle.std.proofs.Common.{◌≡◌, ◌≤◌, ◌+◌, ◌-◌, ◌++◌, map, replicate, vec_capacity, vec_len}
use Rattle.tpl_model.specs.KeptLines.Changes.{changed, stays}
use Rattle.tpl_kept.proofs.renewing.staying.put_stays.Given as goal

-- so many are put, and there is room for the others
abbrev pub invariant-loop-put : goal.invariant-loop-put
invariant-loop-put l =
    (vec_len l.changes + (l.count - l._put) ≤ vec_capacity l.changes)
    × (map changed l.changes.items ≡ map changed l.fn.changes.items ++ replicate l._put stays)
