use Rattle.sig_owner.proofs.Rows.{found_holder, found_nobody}
use Rattle.sig_owner.proofs.holder.holder_at.Goals as goal

pub returns-clause-some : goal.returns-clause-some
returns-clause-some c = found_holder c.args.holders.now.entries c.args.id c.number.result c.get.result c.number.ensures c.get.ensures

pub returns-clause-none : goal.returns-clause-none
returns-clause-none c = found_nobody c.args.holders.now.entries c.args.id c.number.result c.get.result c.number.ensures c.get.ensures
