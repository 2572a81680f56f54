use Rattle.std.proofs.Common.{◌^◌, arith, length, map}
use Rattle.live_core.proofs.Shared.{can_ask, did_hiding}
use Rattle.live_items.proofs.commands.try_verb.Goals as goal

pub returns-in-Get : goal.returns-in-Get
returns-in-Get g c = record {
  did = rw c.in-Get.is (did_hiding c.args.traced c.get.result (λ es. es.items) _ _ _ _ _ _ _ _ _ _ c.if-traced.false
      (c.get.ensures.did (map (λ r. r.slack) c.args.rules.now) (length c.args.rules.now)));
}

pub get-requires : goal.get-requires
get-requires g c = record { can = can_ask _ _ _ _ (2 ^ 124) (2 ^ 125) (omega arith) c.requires.can }
