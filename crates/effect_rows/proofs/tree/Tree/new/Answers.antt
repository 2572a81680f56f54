use Rattle.effect_rows.proofs.Tables.{new_ready}
use Rattle.effect_rows.proofs.tree.Tree.new.Goals as goal

pub returns : goal.returns
returns c = new_ready c.in_ok-tables.tables c.in_ok-tables.ensures.holds c.in_ok-tables.ensures.placed c.in_ok-tables.ensures.bare
