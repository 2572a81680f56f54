use Rattle.std.proofs.Common.{◌≡◌, ◌++◌, drop}
use Rattle.event_model.specs.declared.awaited.Awaited.{Awaited}
use Rattle.page_events.proofs.Waits.{fired_from}
use Rattle.page_events.proofs.waiting.put_waiting.Given as goal

-- the handlers that are left have the next places, and with them all are put
abbrev pub invariant-loop-handler : goal.invariant-loop-handler
invariant-loop-handler l =
    let what : Awaited = record { template = l.template; line = l.line; event = l.event } in
    record {
      count : l.place ≡ l.handler-index;
      onward : l.out.items ++ fired_from l.place what (drop l.handler-index l.all) l.node ≡ l.fn.out.items ++ fired_from 0 what l.all l.node;
    }
