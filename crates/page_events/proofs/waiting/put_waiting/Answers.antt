use Rattle.std.proofs.Common.{◌+◌, ◌∷◌, drop, sym, ap, ◌∙◌, arith}
use Rattle.std.proofs.lemmas.List.{drop_all, drop_more}
use Rattle.event_model.specs.declared.awaited.Awaited.{Awaited}
use Rattle.page_events.proofs.Waits.{none_waiting, one_waiting}
use Rattle.page_events.proofs.waiting.put_waiting.Goals as goal

pub loop-handler-preserved : goal.loop-handler-preserved
loop-handler-preserved c =
    let inv = c.loop-handler.invariant in
    let count = inv.count in
    let i = c.loop-handler.handler-index in
    let all = c.args.all.now in
    let x = c.handler-item.result in
    let what : Awaited = record { template = c.args.template; line = c.args.line; event = c.args.event.now } in
    record {
      count = omega (arith, count);
      onward = one_waiting (drop i all) (drop (i + 1) all) all x c.is_awaited-runs.result c.loop-handler.place c.args.node what c.loop-handler.out.items c.put_if.new.out.items c.args.out.now.items
          (drop_more all i x c.loop-handler-test.true ∙ ap (λ z. z ∷ drop (i + 1) all) (sym c.handler-item.is)) c.is_awaited-runs.ensures c.in_ok-put_if.ensures inv.onward;
    }

pub returns : goal.returns
returns c =
    let what : Awaited = record { template = c.args.template; line = c.args.line; event = c.args.event.now } in
    none_waiting (drop c.loop-handler.handler-index c.args.all.now) c.args.all.now c.loop-handler.place c.args.node what c.loop-handler.out.items c.args.out.now.items
    (drop_all c.loop-handler.handler-index c.args.all.now c.loop-handler-test.false) c.loop-handler.invariant.onward
