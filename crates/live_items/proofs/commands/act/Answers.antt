use Rattle.std.proofs.Common.{refl}
use Rattle.live_items.proofs.Refused.{refused_for}
use Rattle.live_items.proofs.commands.act.Goals as goal

pub returns-in-Do : goal.returns-in-Do
returns-in-Do g c = record { did = rw c.in-Do.is c.do_command.ensures.did }

pub returns-in-Refused : goal.returns-in-Refused
returns-in-Refused g c = record {
  did = rw c.in-Refused.is (refused_for c.args.traced c.refused.result (λ es. es.items) _ _ _ _ _ _ _ c.in-Refused.refusal c.requires.can.counted c.requires.can.ready
      (λ hosts. refl) c.refused.ensures);
}
