use Rattle.effect_rows.proofs.Tables.{page_ready}
use Rattle.effect_rows.proofs.tree.Tree.page.Goals as goal

pub returns : goal.returns
returns c = page_ready c.args.self.now.signals c.args.self.now.tables c.make_page.new.self c.args.inside c.requires c.in_ok-id.ensures.makes.holds c.in_ok-id.ensures.makes.signals c.in_ok-id.ensures.makes.does
