use Rattle.std.proofs.Common.{sym, ap, ◌∙◌}
use Rattle.std.specs.Prelude.{is_some}
use Rattle.effect_tables.specs.Owners.{living}
use Rattle.effect_tables.specs.Placed.{is_open}
use Rattle.effect_tables.proofs.Numbers.{lives_at}
use Rattle.effect_tables.proofs.looks.is_open.Goals as goal

pub returns : goal.returns
returns c = c.is_some.ensures ∙ ap is_some c.get.ensures ∙ sym (ap (is_open (living 0 c.args.owners.now.items)) c.in-Some.is ∙ lives_at c.args.owners.now.items c.in-Some.owner)
