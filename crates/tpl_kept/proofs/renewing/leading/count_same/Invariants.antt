use Rattle.std.proofs.Common.{◌≡◌, ◌-◌, ◌^◌}
use Rattle.tpl_model.specs.KeptLines.Kept.{kept}
use Rattle.tpl_kept.specs.SameTexts.{kept_behind, AreSameTexts}
use Rattle.tpl_kept.proofs.renewing.leading.count_same.Given as goal

-- those so far are the same
abbrev pub invariant-passing : goal.invariant-passing
invariant-passing l = record {
  same : AreSameTexts l.count l.before l.hearing.heard (kept l.memo);
  behind : kept l.at ≡ kept_behind l.count (kept l.memo);
}

abbrev pub decreases-passing : goal.decreases-passing
decreases-passing l = 2 ^ 64 - l.count
