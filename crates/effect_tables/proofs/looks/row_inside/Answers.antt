use Rattle.std.proofs.Common.{sym, ap, ◌∙◌}
use Rattle.std.specs.Prelude.{is_some}
use Rattle.effect_tables.specs.Owners.{living}
use Rattle.effect_tables.specs.Placed.{is_open}
use Rattle.effect_tables.proofs.Numbers.{lives_at}
use Rattle.effect_tables.proofs.looks.row_inside.Goals as goal

pub returns-in_default-get-clause-gone : goal.returns-in_default-get-clause-gone
returns-in_default-get-clause-gone c = λ h. ap (is_open (living 0 c.args.owners.now.items)) c.in-Some.is ∙ lives_at c.args.owners.now.items c.in-Some.owner ∙ sym (ap is_some c.in_default-get.ensures)

pub returns-clause-open : goal.returns-clause-open
returns-clause-open c = ap (is_open (living 0 c.args.owners.now.items)) c.in-Some.is ∙ lives_at c.args.owners.now.items c.in-Some.owner ∙ sym (ap is_some c.in-Some-get.ensures)
