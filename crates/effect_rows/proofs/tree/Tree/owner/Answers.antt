use Rattle.effect_rows.proofs.Tables.{owner_ready}
use Rattle.effect_rows.proofs.tree.Tree.owner.Goals as goal

pub returns : goal.returns
returns c = owner_ready c.args.self.now.signals c.args.self.now.tables c.make_owner.new.self c.args.inside c.requires c.in_ok-id.ensures.makes.holds c.in_ok-id.ensures.makes.signals c.in_ok-id.ensures.makes.does
