use Rattle.std.proofs.Common.{ap, ◌∙◌, length}
use Rattle.keyed_each.specs.Queue.{left}
use Rattle.keyed_each.proofs.Leads.{many_judged, whole}
use Rattle.keyed_each.proofs.places.place.Goals as goal

pub returns-clause-count : goal.returns-clause-count
returns-clause-count g c =
    let olds = c.in_ok-olds.olds.keys in
    ap length c.in_ok-steps.ensures ∙ many_judged g.K.PartialEq.eq g.met.K.RowKey.decides olds 0 (left c.in_ok-waiting.waiting.items olds) c.args.new.now

pub returns-clause-steps : goal.returns-clause-steps
returns-clause-steps g c = λ od nd.
    whole g.K.PartialEq.eq g.met.K.RowKey.decides c.args.old.now c.args.new.now c.in_ok-olds.olds.keys c.in_ok-waiting.waiting.items c.in_ok-steps.steps.items od nd
    (c.in_ok-olds.ensures.keys od) (c.in_ok-waiting.ensures.marks nd) c.in_ok-steps.ensures
