use Rattle.std.proofs.Common.{◌≡◌, Some, length, map, sym, ap, subst, arith, append-nil}
use Rattle.std.specs.Prelude.{slice_get}
use Rattle.sig_state.specs.Batches.{Collected}
use Rattle.sig_state.proofs.Collected.{net_all, net_step, there_at}
use Rattle.sig_state.proofs.batch.Batch.net.Goals as goal

pub loop-place-init : goal.loop-place-init
loop-place-init g c = record {
  items = sym (append-nil c.args.out.now.items);
  room = let room = c.requires.room in omega (arith, room);
}

pub push_unlike-requires-clause-ruled : goal.push_unlike-requires-clause-ruled
push_unlike-requires-clause-ruled g c =
    let at = subst (λ (b : Collected). slice_get b.changed c.loop-place.place ≡ Some (c.in-Some.id.now, c.in-Some.before.now)) c.self.view_is (sym c.in-Some.ensures.entry) in
    c.requires.ruled c.in-Some.id.now (there_at c.args.self.now.changed c.loop-place.place c.in-Some.id.now c.in-Some.before.now at)

pub push_unlike-requires-clause-room : goal.push_unlike-requires-clause-room
push_unlike-requires-clause-room g c =
    let room = c.loop-place.invariant.room in
    let low = c.loop-place-test.true in
    let long = c.len-place-end.ensures.len in
    let same = ap (λ (b : Collected). length b.changed) c.self.view_is in
    omega (arith, room, low, long, same)

pub loop-place-preserved : goal.loop-place-preserved
loop-place-preserved g c =
    let b = c.args.self.now.changed in
    let place = c.loop-place.place in
    let at = subst (λ (x : Collected). slice_get x.changed place ≡ Some (c.in-Some.id.now, c.in-Some.before.now)) c.self.view_is (sym c.in-Some.ensures.entry) in
    let low = c.loop-place-test.true in
    let long = c.len-place-end.ensures.len in
    let same = ap (λ (x : Collected). length x.changed) c.self.view_is in
    record {
      items =
          net_step (map (λ r. r.slack) c.args.rules.now) c.args.graph.now.state.signals b c.args.out.now.items c.loop-place.out.items c.push_unlike.new.out.items
          place c.in-Some.id.now c.in-Some.before.now (omega (arith, low, long, same)) at c.loop-place.invariant.items c.push_unlike.ensures.items;
      room =
          let room = c.loop-place.invariant.room in
          let len = c.push_unlike.ensures.len in
          let capacity = c.push_unlike.ensures.capacity in
          omega (arith, room, len, capacity);
    }

pub returns : goal.returns
returns g c =
    let high = c.loop-place-test.false in
    let long = c.len-place-end.ensures.len in
    let same = ap (λ (x : Collected). length x.changed) c.self.view_is in
    net_all (map (λ r. r.slack) c.args.rules.now) c.args.graph.now.state.signals c.args.self.now.changed c.args.out.now.items c.loop-place.out.items c.loop-place.place
    (omega (arith, high, long, same)) c.loop-place.invariant.items
