use Rattle.std.proofs.Common.{length}
use Rattle.live_core.proofs.Shared.{did_alone, did_for}
use Rattle.live_items.proofs.commands.do_command.Goals as goal

pub returns-in-Named : goal.returns-in-Named
returns-in-Named g c = record { did = rw c.in-Named.is c.try_verb.ensures.did }

pub returns-in-Set : goal.returns-in-Set
returns-in-Set g c = record {
  did = rw c.in-Set.is (did_for c.args.traced c.try_set.result (λ es. es.items) _ _ _ _ _ _ _ _ _ _
      (did_alone c.try_set.result (λ es. es.items) _ _ _ _ _ _ _ _ c.requires.can.counted
      (λ hosts sound. c.try_set.ensures.steps hosts _ sound)
      (λ hosts sound. c.try_set.ensures.leaves hosts _ (length c.args.rules.now) sound)));
}

pub returns-in-Bare : goal.returns-in-Bare
returns-in-Bare g c = record { did = rw c.in-Bare.is c.try_bare.ensures.did }
