use Rattle.std.proofs.Common.{◌∙◌}
use Rattle.keyed_each.proofs.Distinct.{listed_any}
use Rattle.keyed_each.proofs.places.is_there.Goals as goal

pub returns : goal.returns
returns g c = c.contains.ensures ∙ listed_any g.K.PartialEq.eq g.met.K.RowKey.decides c.args.key.now c.args.keys.now.keys
