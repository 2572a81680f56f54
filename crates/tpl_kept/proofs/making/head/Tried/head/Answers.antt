use Rattle.std.proofs.Common.{ap, refl, ◌∙◌}
use Rattle.tpl_model.specs.KeptLines.Kept.{kept}
use Rattle.tpl_kept.proofs.making.head.Tried.head.Goals as goal

pub returns : goal.returns
returns c =
    (c.in_ok-first.first, c.in_ok-second.second, (refl, (ap kept c.in_ok-first.ensures.ok ∙ c.last.ensures, ap kept c.in_ok-second.ensures.ok ∙ c.last_read.ensures)))
