use Rattle.std.proofs.Common.{◌≡◌, true, ap, sym, ◌∙◌, length}
use Rattle.keyed_each.specs.Standing.{stand_among}
use Rattle.keyed_each.proofs.Order.{many_stand, steps_stand}
use Rattle.keyed_each.proofs.numbers.place_numbers.Goals as goal

pub returns-then-stand_among-clause-count : goal.returns-then-stand_among-clause-count
returns-then-stand_among-clause-count c = ap length c.in_ok-stood.ensures ∙ many_stand c.args.next 0 c.args.new.now

pub returns-then-stand_among-clause-steps : goal.returns-then-stand_among-clause-steps
returns-then-stand_among-clause-steps c = λ od nd.
    let stands : true ≡ stand_among c.args.next c.in_ok-kept.kept.items c.args.old.now = sym c.if-stand_among.true ∙ (rw c.deref.ensures.value at c.stand_among.ensures) in
    steps_stand c.args.next c.args.old.now c.args.new.now c.in_ok-kept.kept.items c.in_ok-stood.stood.items od nd c.in_ok-kept.ensures stands c.in_ok-stood.ensures
