use Rattle.tpl_hearing.proofs.Paired.{place_listed}
use Rattle.tpl_hearing.proofs.name_list.place_in.Goals as goal

pub returns-clause-some : goal.returns-clause-some
returns-clause-some c = place_listed c.args.names.now.keys c.args.id c.get_index_of.result c.get_index_of.ensures.index
