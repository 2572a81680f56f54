use Rattle.live_laws.proofs.Cuts.{items_law, parts_law}
use Rattle.live_laws.proofs.Ends.{whole_law}
use Rattle.live_laws.proofs.laws.script_cut.Goals as goal

pub returns-clause-items : goal.returns-clause-items
returns-clause-items c = items_law c.items_cut.ensures c.one_list.ensures.one

pub returns-clause-parts : goal.returns-clause-parts
returns-clause-parts c = parts_law c.items_cut.ensures c.one_list.ensures.some c.one_list.ensures.one

pub returns-clause-whole : goal.returns-clause-whole
returns-clause-whole c = whole_law
