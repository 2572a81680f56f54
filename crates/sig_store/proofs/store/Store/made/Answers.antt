use Rattle.std.proofs.Common.{sym}
use Rattle.sig_store.proofs.Edits.{entries-length}
use Rattle.sig_store.proofs.store.Store.made.Goals as goal

pub returns : goal.returns
returns g c = rw (← c.self.view_is) (sym (entries-length _ _ _))
