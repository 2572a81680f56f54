use Rattle.keyed_each.proofs.Distinct.{found_place}
use Rattle.keyed_each.proofs.places.place_of.Goals as goal

pub returns : goal.returns
returns g c =
    found_place g.K.PartialEq.eq g.met.K.RowKey.decides c.args.key.now c.args.keys.now.keys c.get_index_of-found.result c.get_index_of-found.ensures.index
    c.get_index_of-found.ensures.found
