use Rattle.std.proofs.Common.{sym, ap, ◌∙◌}
use Rattle.std.specs.Option.{option_copied}
use Rattle.tpl_model.specs.KeptLines.Changes.{is_stays}
use Rattle.tpl_drawn.proofs.Compares.Walks.{first_none, first_some}
use Rattle.tpl_drawn.proofs.comparing.comparer.first_stays.Goals as goal

pub returns : goal.returns
returns c =
    c.is_stays.ensures ∙ ap is_stays (first_some c.args.inside.now c.in-Some.change.now (sym c.first.ensures.value ∙ ap option_copied c.in-Some.is))

pub returns-in_default : goal.returns-in_default
returns-in_default c = ap is_stays (first_none c.args.inside.now (sym c.first.ensures.value ∙ ap option_copied c.in_default.is))
