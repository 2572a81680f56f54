use Rattle.effect_rows.proofs.Tables.{taken_ready}
use Rattle.effect_rows.proofs.tree.Tree.back.Goals as goal

pub returns : goal.returns
returns c = taken_ready c.args.self.now.signals c.args.self.now.tables c.take_back.new.tables _ _ c.requires c.in_ok-steps.ensures.takes.takes
