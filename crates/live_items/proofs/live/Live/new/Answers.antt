use Rattle.std.proofs.Common.{◌∙◌, arith, ap}
use Rattle.live_model.specs.Machine.{empty}
use Rattle.live_items.proofs.Places.{are_new, count_new, most_new}
use Rattle.live_items.proofs.live.Live.new.Goals as goal

pub returns-clause-machine : goal.returns-clause-machine
returns-clause-machine g c =
    c.in_ok-machine.ensures.plain _ (are_new c.args.hosts.items _ c.in_ok-shelf.ensures.asked) ∙ ap empty (count_new c.args.hosts.items _ c.in_ok-shelf.ensures.asked)

pub returns-clause-sound : goal.returns-clause-sound
returns-clause-sound g c = λ hosts. c.in_ok-machine.ensures.sound hosts _ (are_new c.args.hosts.items _ c.in_ok-shelf.ensures.asked)

pub returns-clause-kept : goal.returns-clause-kept
returns-clause-kept g c = record {
  ready = λ _. c.in_ok-machine.ensures.ready;
  holds = λ _. c.in_ok-machine.ensures.holds _ _;
  weight = λ _. let a = c.in_ok-machine.ensures.weight in omega (arith, a);
  most = λ _. let a = most_new c.args.hosts.items _ c.in_ok-shelf.ensures.asked in omega (arith, a);
}
