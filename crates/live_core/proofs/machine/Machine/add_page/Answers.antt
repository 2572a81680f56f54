use Rattle.std.proofs.Common.{refl}
use Rattle.live_core.proofs.Mounts.{named_behind}
use Rattle.live_core.proofs.machine.Machine.add_page.Goals as goal

pub returns-clause-parts : goal.returns-clause-parts
returns-clause-parts c =
    let m = c.args.self.now in
    named_behind m (record m { pages = c.push.new.self }) c.name_page.new.self refl c.in_ok-name_page.ensures.parts

pub returns-in_err-name_page-clause-parts : goal.returns-in_err-name_page-clause-parts
returns-in_err-name_page-clause-parts c =
    let m = c.args.self.now in
    named_behind m (record m { pages = c.push.new.self }) c.name_page.new.self refl c.in_err-name_page.ensures.parts
