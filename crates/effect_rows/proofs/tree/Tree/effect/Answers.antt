use Rattle.effect_rows.proofs.Tables.{effect_ready}
use Rattle.effect_rows.proofs.tree.Tree.effect.Goals as goal

pub returns : goal.returns
returns c = effect_ready c.args.self.now.signals c.args.self.now.tables c.make_effect.new.self _ c.args.inside c.requires c.in_ok-id.ensures.makes.holds c.in_ok-id.ensures.makes.signals c.in_ok-id.ensures.makes.does
