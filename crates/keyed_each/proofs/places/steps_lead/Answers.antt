use Rattle.keyed_each.proofs.Distinct.{apart}
use Rattle.keyed_each.proofs.Leads.{all_led}
use Rattle.keyed_each.proofs.places.steps_lead.Goals as goal

pub returns : goal.returns
returns g c = λ old new o n.
    all_led g.K.PartialEq.eq g.met.K.RowKey.decides old new (apart g.K.PartialEq.eq g.met.K.RowKey.decides old o) (apart g.K.PartialEq.eq g.met.K.RowKey.decides new n)
