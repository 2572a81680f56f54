use Rattle.std.proofs.Common.{sym}
use Rattle.sig_watcher.proofs.Places.{first_alive}
use Rattle.sig_watcher.proofs.watchers.is_alive.Goals as goal

pub returns-in-Some : goal.returns-in-Some
returns-in-Some c = sym (first_alive c.args.watchers.now c.args.w c.in-Some.field-0 c.in-Some.ensures.some)
