use Rattle.std.proofs.Common.{arith}
use Rattle.live_items.proofs.Places.{place_past, place_taken}
use Rattle.live_items.proofs.refusals.taken_refusal.Goals as goal

pub returns-then-len-place : goal.returns-then-len-place
returns-then-len-place g c = place_past _ _ c.args.place c.len.result c.len.ensures c.if-len-place.true

pub returns-else-is_free : goal.returns-else-is_free
returns-else-is_free g c =
    let a = c.len.ensures in
    let b = c.if-len-place.false in
    place_taken _ _ c.args.place c.is_free.result (omega (arith, a, b)) c.is_free.ensures c.if-is_free.false
